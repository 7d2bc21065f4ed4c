use Rattle.std.proofs.Common.{refl, rules}
use Rattle.vocabulary.specs.Vocabularies.{theory}
use Rattle.docket.proofs.Running.{stays}
use Rattle.docket.proofs.Pushing.{never_unfit}
use Rattle.docket.proofs.Lining.{line_done}
use Rattle.docket.proofs.Docket.file_line.Goals as goal

pub returns-in_err-line-clause-reached : goal.returns-in_err-line-clause-reached
returns-in_err-line-clause-reached g c = stays (search rules)

pub returns-in-Ok : goal.returns-in-Ok
returns-in-Ok g c =
    let k = g.B.Bank.calculus c.args.bank.now in
    let checked = c.in_ok-line.ensures in
    let done = line_done k c.args.draft.now c.args.self.now c.in_ok-enter.ensures.0 c.enter.new.self _ c.entries.result.now c.room.result
    c.in-Ok.number c.in_ok-line.line c.in_ok-enter.ensures.1 c.entries.ensures c.room.ensures checked.0 checked.1 c.in-Ok.ensures refl in
    record { acts = done; reached = stays done }

pub returns-in-Err : goal.returns-in-Err
returns-in-Err g c =
    let d = c.enter.new.self in
    let checked = c.in_ok-line.ensures in
    absurd (never_unfit (g.B.Bank.calculus c.args.bank.now) (theory d.vocabulary) d.book c.push.new.self _ _ c.args.draft.now c.in_ok-line.line c.in-Err.field-0
    c.entries.ensures c.room.ensures checked.0 checked.1 c.in-Err.ensures)
