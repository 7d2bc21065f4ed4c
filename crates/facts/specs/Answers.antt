-- The docket and what is asked of it decide the answer.
use Rattle.std.specs.Prelude.{◌≡◌, ℕ, List, Result}
use Rattle.refusals.specs.declared.Refusal.{Refusal}
use Rattle.models.specs.declared.Model.{Model}
use Rattle.docket.specs.declared.Docket.{Docket}
use Rattle.docket.specs.Calls.{Call, close_inhabited, Acts}

-- two calls ask the same; what a model's call makes of the working rows is no part of what is asked
pub data AsksTheSame : Call → Call → Type 0 where
  the_same : {c : Call} → AsksTheSame c c
  the_same_model : {c : ℕ} {m : Model} {old new other : List ℕ}
      → AsksTheSame (close_inhabited c m old new) (close_inhabited c m old other)

-- A CALL HAS ONE ANSWER, in any docket, reached or not
abbrev pub CallsHaveOneAnswer : Type 0
CallsHaveOneAnswer = (d : Docket) (c c' : Call) → AsksTheSame c c'
    → (a b : Result ℕ Refusal) (e f : Docket) → Acts c d a e → Acts c' d b f → a ≡ b
