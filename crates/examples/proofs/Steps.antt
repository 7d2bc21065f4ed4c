-- The steps of the table, by the tests of the house.
use Rattle.std.proofs.Common.{◌≡◌, ℕ, Bool, true, false, List, [], ◌∷◌, refl}
use Rattle.std.proofs.lemmas.Bool.{both_ways}
use Rattle.bits.specs.Among.{among}
use Rattle.logic.specs.Theories.{Theory}
use Rattle.vocabulary.specs.Vocabularies.{theory}
use Rattle.schemas.specs.Table.{Applies}
use Rattle.schemas.specs.House.{house}
use Rattle.schemas.proofs.HouseLaws.{house_is_the_table}
use Rattle.examples.specs.Cases.{Is, AllHold}
use Rattle.examples.specs.SmallDocket.{six, seven}
use Rattle.examples.specs.StepCases.{step_cases}

-- what the test of the house says, the table says
decided : (t : Theory) (ms : List ℕ) (rule p q s : ℕ) (said : Bool)
    → house.applies rule t (record { p = p; q = q; s = s }) (among ms) ≡ said
    → Is (Applies t (among ms) rule p q s) said
decided t ms rule p q s true h = (house_is_the_table.steps t rule p q s (among ms)).0 h
decided t ms rule p q s false h = λ a. both_ways _ h ((house_is_the_table.steps t rule p q s (among ms)).1 a)

pub steps_hold : AllHold step_cases
steps_hold = (
  decided (theory six) (0 ∷ 1 ∷ []) 2 0 1 0 true refl,
  (
    decided (theory six) (2 ∷ 4 ∷ []) 2 2 4 0 true refl,
    (
      decided (theory six) (0 ∷ 3 ∷ 5 ∷ []) 10 3 0 0 true refl,
      (
        decided (theory six) (0 ∷ 3 ∷ []) 8 1 0 5 true refl,
        (
          decided (theory seven) (0 ∷ 3 ∷ []) 8 1 0 6 false refl,
          tt,
        ),
      ),
    ),
  ),
)
