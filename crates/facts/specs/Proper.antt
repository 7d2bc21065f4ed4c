-- What the taking of closed trees asks of the rules.
use Rattle.std.specs.Prelude.{◌≡◌, ℕ, ◌<◌, Bool, true, length}
use Rattle.logic.specs.Theories.{Theory}
use Rattle.logic.specs.Pairing.{Pairable, joined}
use Rattle.logic.specs.Keeping.{Kept}
use Rattle.calculus.specs.declared.rule.Principals.{Principals}
use Rattle.calculus.specs.Calculi.{Calculus}

-- the principals are standing concepts
abbrev pub PrincipalsStand : Theory → Principals → Type 0
PrincipalsStand t on =
    (on.p < length t.concepts) × (on.q < length t.concepts) × (on.s < length t.concepts)

-- t once c and d are paired
abbrev pub with_pair : Theory → ℕ → ℕ → Theory
with_pair t c d = record t { mates = joined t.mates c d }

-- Of one rule, in theories that are kept: if a step applies to a set of standing concepts,
-- its principals stand too; and when two concepts are paired, it goes on to apply, with the same
-- conclusions.
pub record ProperRule (applies : Theory → Principals → (ℕ → Bool) → Bool)
    (concludes : Theory → Principals → (ℕ → Bool) → ℕ → ℕ → Bool) : Type 0 where
  pub principals_stand : (t : Theory) (on : Principals) (X : ℕ → Bool) → Kept t
      → ((c : ℕ) → X c ≡ true → c < length t.concepts)
      → applies t on X ≡ true → PrincipalsStand t on
  pub still_applies : (t : Theory) (c d : ℕ) → Kept t → Pairable t c d
      → (on : Principals) (X : ℕ → Bool) → applies t on X ≡ true
      → applies (with_pair t c d) on X ≡ true
  pub still_concludes : (t : Theory) (c d : ℕ) → Kept t → Pairable t c d
      → (on : Principals) (X : ℕ → Bool) → applies t on X ≡ true
      → (i e : ℕ) → concludes (with_pair t c d) on X i e ≡ concludes t on X i e

-- of all of its rules
abbrev pub Proper : Calculus → Type 0
Proper k = (n : ℕ) → ProperRule (k.applies n) (k.concludes n)
