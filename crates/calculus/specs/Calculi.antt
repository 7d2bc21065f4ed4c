-- What a bank of rules says, and how banks are put together.
use Rattle.std.specs.Prelude.{◌≡◌, ℕ, ◌≤◌, Bool, true, cond, ◌&&◌, ◌||◌, ◌==◌}
use Rattle.logic.specs.Theories.{Theory}
use Rattle.calculus.specs.declared.rule.Principals.{Principals}
use Rattle.calculus.specs.Schemas.{Schema, Sound, MayConclude}

-- for each rule number: whether there is such a rule, and what it says
pub record Calculus : Type 0 where
  pub has : ℕ → Bool
  pub cites : ℕ → ℕ
  pub applies : ℕ → Theory → Principals → (ℕ → Bool) → Bool
  pub concludes : ℕ → Theory → Principals → (ℕ → Bool) → ℕ → ℕ → Bool

-- every rule shows the soundness law, and cites at most two lines: all that is asked of a bank for
-- what is shown of lines and claims
pub record SoundCalculus (k : Calculus) : Type 0 where
  pub few : (n : ℕ) → k.cites n ≤ 2
  pub sound : (n : ℕ) (t : Theory) (on : Principals) (X : ℕ → Bool)
      → Sound t X (k.applies n t on X) (k.cites n) (k.concludes n t on X)

-- what every bank shows: that, and with a number that no rule has, no step applies; and a
-- conclusion has standing concepts alone, none past the last conclusion, and none when the step
-- doesn't apply
pub record LawfulCalculus (k : Calculus) : Type 0 where
  pub is_sound : SoundCalculus k
  pub known : (n : ℕ) (t : Theory) (on : Principals) (X : ℕ → Bool) → k.applies n t on X ≡ true
      → k.has n ≡ true
  pub concluding : (n : ℕ) (t : Theory) (on : Principals) (X : ℕ → Bool) (i c : ℕ)
      → k.concludes n t on X i c ≡ true
      → MayConclude t (k.applies n t on X) (k.cites n) i c

-- one rule
abbrev pub alone : Schema → Calculus
alone r = record {
  has = λ n. (n == r.number);
  cites = λ n. r.cites;
  applies = λ n t on X. (n == r.number) && r.applies t on X;
  concludes = λ n t on X i c. (n == r.number) && r.concludes t on X i c;
}

-- two banks side by side: the left one answers if it has the rule
abbrev pub beside : Calculus → Calculus → Calculus
beside a b = record {
  has = λ n. a.has n || b.has n;
  cites = λ n. cond (a.has n) (a.cites n) (b.cites n);
  applies = λ n t on X. cond (a.has n) (a.applies n t on X) (b.applies n t on X);
  concludes = λ n t on X i c. cond (a.has n) (a.concludes n t on X i c) (b.concludes n t on X i c);
}
