-- Calls with their answers, and questions, one after another.
use Rattle.std.specs.Prelude.{ℕ, ◌⊎◌, List, [], ◌∷◌, Ok, Err, Result}
use Rattle.refusals.specs.declared.Refusal.{Refusal}
use Rattle.docket.specs.Calls.{Call, pair, seal, close_empty, close_inhabited}
use Rattle.docket.specs.Runs.{Event, called, asked}

-- every event is so
abbrev pub Each : (Event → Type 0) → List Event → Type 0
Each P [] = Unit {0}
Each P (x ∷ xs) = P x × Each P xs

-- the third list has the events of the first two: each list keeps its order, and otherwise they
-- alternate in any way
pub data Interleaved : List Event → List Event → List Event → Type 0 where
  none : Interleaved [] [] []
  left : {x : Event} {xs ys zs : List Event}
      → Interleaved xs ys zs → Interleaved (x ∷ xs) ys (x ∷ zs)
  right : {y : Event} {xs ys zs : List Event}
      → Interleaved xs ys zs → Interleaved xs (y ∷ ys) (y ∷ zs)

-- calls that file nothing
abbrev pub FilesNothing : Call → Type 0
FilesNothing (pair a b) = Unit {0}
FilesNothing seal = Unit {0}
FilesNothing (close_empty c n) = Unit {0}
FilesNothing (close_inhabited c m old new) = Unit {0}
FilesNothing call = ⊥

abbrev pub IsRefusal : Result ℕ Refusal → Type 0
IsRefusal (Ok i) = ⊥
IsRefusal (Err x) = Unit {0}

-- nothing was filed: a question, a call that files nothing, or a refused one
abbrev pub NothingFiled : Event → Type 0
NothingFiled (called c a) = FilesNothing c ⊎ IsRefusal a
NothingFiled (asked q) = Unit {0}
