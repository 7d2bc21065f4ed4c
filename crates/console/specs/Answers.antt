-- What a docket with the ten rules makes of a dossier.
use Rattle.std.specs.Prelude.{◌≡◌, ℕ, ◌<◌, ◌≤◌, List, length, take, drop, Some, Ok, Err, Result}
use Rattle.refusals.specs.Checks.{first}
use Rattle.register.specs.Registers.{room}
use Rattle.claims.specs.declared.Status.TheVariants.{Open, Empty, Inhabited}
use Rattle.claims.specs.Claiming.{filed, tallied}
use Rattle.docket.specs.declared.Docket.{Docket}
use Rattle.docket.specs.Dockets.{Fresh, opening_checks}
use Rattle.docket.specs.Runs.{Reached, sound, only}
use Rattle.schemas.specs.House.{house}
use Rattle.records.specs.Files.{HasRecords}
use Rattle.intake.specs.declared.Reply.{Reply}
use Rattle.intake.specs.Taking.{RecordsTaken}
use Rattle.console.specs.declared.answer.Outcome.{Outcome}
use Rattle.console.specs.declared.failure.Failure.{Failure}
use Rattle.console.specs.declared.failure.Failure.TheVariants.{Capacities, Replies, Memory, Io, Notices}

-- the open, the empty and the inhabited claims of a docket
abbrev pub tally_of : Docket → ℕ × ℕ × ℕ
tally_of d =
    let cs = filed d.claims in (tallied Open cs, tallied Empty cs, tallied Inhabited cs)

-- A new docket with room for so many concepts and lines takes the file, record by record, with the
-- ten rules. These are its replies, and this the tally of its claims at the end; its working rows
-- go from old to new. That docket is reached by the ten rules alone, and so by sound banks, so that
-- all that holds of such dockets holds of it.
pub record Replied (file : List ℕ) (concepts lines : ℕ) (old new : List ℕ)
    (replies : List Reply) (tally : ℕ × ℕ × ℕ) : Type 0 where
  pub opened : Docket
  pub closed : Docket
  pub fresh : Fresh opened
  pub concept_room : room opened.vocabulary.concepts ≡ concepts
  pub line_room : room opened.book ≡ lines
  pub taken : RecordsTaken house file 0 opened old replies closed new
  pub reached : Reached (only house) closed
  pub reached_soundly : Reached sound closed
  pub tallied : tally ≡ tally_of closed

-- The docket's replies stand in the first places for them, and the places behind them are as they
-- were. Or why no docket was asked: then working rows and places are as they were.
abbrev pub Answers : List ℕ → (concepts lines : ℕ) → (old new : List ℕ)
    → (before after : List Reply) → Result Outcome Failure → Type 0
Answers file concepts lines old new before after (Ok o) =
    (o.count ≤ length before) × Replied file concepts lines old new (take o.count after) o.tally
    × (drop o.count after ≡ drop o.count before)
Answers file concepts lines old new before after (Err Capacities) =
    ((x : ℕ × ℕ) × (first (opening_checks concepts lines concepts lines) ≡ Some x))
    × (new ≡ old) × (after ≡ before)
Answers file concepts lines old new before after (Err Replies) =
    ((n : ℕ) × HasRecords file n × (length before < n)) × (new ≡ old) × (after ≡ before)
Answers file concepts lines old new before after (Err Memory) = ⊥
Answers file concepts lines old new before after (Err (Io e)) = ⊥
Answers file concepts lines old new before after (Err (Notices e)) = ⊥
