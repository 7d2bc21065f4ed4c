use Rattle.std.proofs.Common.{ℕ, [], Result, refl, subst}
use Rattle.refusals.specs.declared.Refusal.{Refusal}
use Rattle.schemas.specs.House.{house}
use Rattle.docket.specs.Runs.{sound, only}
use Rattle.schemas.proofs.HouseLaws.{house_lawful}
use Rattle.intake.specs.Taking.{FileTaken}
use Rattle.console.proofs.Answering.{answered}
use Rattle.console.proofs.answer.answer.Goals as goal

pub returns : goal.returns
returns c =
    let count = c.in_ok-count.count in
    let (_, few, taken, behind) = subst
    (λ (a : Result ℕ Refusal). FileTaken house c.args.file.now c.in-Ok.docket c.args.rows.now c.args.replies.now a c.take_file.new.docket c.take_file.new.rows c.take_file.new.replies)
    (answered _ c.take_file.result count c.in_ok-count.ensures.cases)
    c.take_file.ensures.taken in
    let (_, fresh, concept_room, line_room, _, _) = c.in-Ok.ensures in (
      few,
      record {
        opened = c.in-Ok.docket;
        closed = c.take_file.new.docket;
        fresh = fresh;
        concept_room = concept_room;
        line_room = line_room;
        taken = taken;
        reached = c.take_file.ensures.reached (only house) refl (record { began = c.in-Ok.docket; fresh = fresh; history = []; ran = refl });
        reached_soundly = c.take_file.ensures.reached sound house_lawful.is_sound (record { began = c.in-Ok.docket; fresh = fresh; history = []; ran = refl });
        tallied = c.tally.ensures;
      },
      behind,
    )
