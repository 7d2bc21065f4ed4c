-- What a rule says, and the law that it owes.
use Rattle.std.specs.Prelude.{◌≡◌, ℕ, ◌<◌, ◌≤◌, Bool, true, length}
use Rattle.logic.specs.Interpretations.{Interpretation}
use Rattle.logic.specs.Theories.{Theory, MeetsAxioms, Inhabits}
use Rattle.logic.specs.Keeping.{Kept}
use Rattle.calculus.specs.declared.rule.Principals.{Principals}

-- A rule's number, how many lines it cites, when a step applies to a label, and which concepts are
-- in conclusion i. All of it is said over a theory and a set of concepts, and so by nothing but
-- what was filed and paired.
pub record Schema : Type 0 where
  pub number : ℕ
  pub cites : ℕ
  pub applies : Theory → Principals → (ℕ → Bool) → Bool
  pub concludes : Theory → Principals → (ℕ → Bool) → ℕ → ℕ → Bool

-- THE SOUNDNESS LAW, of one step, in every theory that is kept, as all are that calls make: if a
-- finite interpretation that meets the axioms has an element in all of the label, and the step
-- applies, then for some i below the number of its conclusions it has an element in all of
-- conclusion i
abbrev pub Sound : Theory → (ℕ → Bool) → Bool → ℕ → (ℕ → ℕ → Bool) → Type 0
Sound t X applies n concludes =
    (I : Interpretation) → Kept t → MeetsAxioms I t → applies ≡ true → Inhabits I t X
    → (i : ℕ) × (i < n) × Inhabits I t (concludes i)

-- concept c may be in conclusion i: the step applies, there is such a conclusion, and c stands
pub record MayConclude (t : Theory) (applies : Bool) (n i c : ℕ) : Type 0 where
  pub step_applies : applies ≡ true
  pub has_conclusion : i < n
  pub stands : c < length t.concepts

-- what every rule shows
pub record Lawful (r : Schema) : Type 0 where
  pub few : r.cites ≤ 2
  pub concluding : (t : Theory) (on : Principals) (X : ℕ → Bool) (i c : ℕ)
      → r.concludes t on X i c ≡ true
      → MayConclude t (r.applies t on X) r.cites i c
  pub sound : (t : Theory) (on : Principals) (X : ℕ → Bool)
      → Sound t X (r.applies t on X) r.cites (r.concludes t on X)
