-- What is shown of the house: its tests say what the table says.
use Rattle.std.specs.Prelude.{◌≡◌, ℕ, ◌-◌, ◌≤◌, Bool, true, ◌↔◌, slice_index}
use Rattle.logic.specs.Theories.{Theory}
use Rattle.calculus.specs.Calculi.{Calculus}
use Rattle.schemas.specs.Table.{Applies, Concludes, conclusions}
use Rattle.schemas.specs.House.{house}

-- THE LAW OF THE TABLE, for every theory and every set of concepts: the rules are 1 to 10, each
-- with as many conclusions as the table gives it; a step applies exactly if the table says so; and
-- exactly what the table says is in a conclusion
pub record SaysTheTable (k : Calculus) : Type 0 where
  pub ten : (n : ℕ) → (k.has n ≡ true) ↔ ((1 ≤ n) × (n ≤ 10))
  pub counts : (n : ℕ) → 1 ≤ n → n ≤ 10 → k.cites n ≡ slice_index conclusions (n - 1)
  pub steps : (t : Theory) (n p q s : ℕ) (X : ℕ → Bool)
      → (k.applies n t (record { p = p; q = q; s = s }) X ≡ true) ↔ Applies t X n p q s
  pub lines : (t : Theory) (n p q s : ℕ) (X : ℕ → Bool) (i c : ℕ)
      → (k.concludes n t (record { p = p; q = q; s = s }) X i c ≡ true) ↔ Concludes t X n p q s i c

abbrev pub HouseIsTheTable : Type 0
HouseIsTheTable = SaysTheTable house
