use Rattle.std.proofs.Common.{Ok, rules}
use Rattle.docket.proofs.Running.{stays}
use Rattle.docket.proofs.Answering.{means_after}
use Rattle.docket.proofs.Naming.{concept_done}
use Rattle.docket.proofs.Docket.file_concept.Goals as goal

pub returns-in_err-k-clause-reached : goal.returns-in_err-k-clause-reached
returns-in_err-k-clause-reached c = stays (search rules)

pub returns-in-Ok : goal.returns-in-Ok
returns-in-Ok c =
    let k = c.in_ok-k.k in
    let done = concept_done c.args.self.now c.enter.new.self c.file_concept.new.self c.len.result c.args.tag c.args.a c.args.b c.in-Ok.number k
    c.in_ok-enter.ensures.1 c.len.ensures c.in_ok-k.ensures.0 c.in_ok-k.ensures.1 c.in-Ok.ensures in
    record { acts = done; reached = stays done; stays = means_after c.args.self.now.vocabulary c.file_concept.new.self done.1.0 (Ok c.in-Ok.number) done.1.2 }

pub returns-in-Err-clause-reached : goal.returns-in-Err-clause-reached
returns-in-Err-clause-reached c = stays (search rules)
