-- Tests that are passed.
use Rattle.std.proofs.Common.{◌≡◌, ℕ, Bool, true, false, ◌&&◌, ◌||◌, T, eqb, ◌⊎◌, refl, subst, arith}
use Rattle.std.proofs.lemmas.Bool.{false≢true}
use Rattle.std.proofs.lemmas.Grind.{common_steps}
use lib.Dec.{eqb_refl}

pub never : {A : Type 0} → false ≡ true → A
never h = absurd (false≢true h)

pub T_true : (b : Bool) → T b → b ≡ true
T_true true h = refl
T_true false h = absurd h

pub and_out : (a b : Bool) → T (a && b) → T a × T b
and_out a b h = grind (arith, common_steps)

pub and_in : (a b : Bool) → T a → T b → T (a && b)
and_in a b h k = grind (arith, common_steps)

pub or_out : (a b : Bool) → T (a || b) → T a ⊎ T b
or_out a b h = grind (arith, common_steps)

pub or_left : (a b : Bool) → T a → T (a || b)
or_left a b h = grind (arith, common_steps)

pub or_right : (a b : Bool) → T b → T (a || b)
or_right a b h = grind (arith, common_steps)

pub eq_T : (a b : ℕ) → a ≡ b → T (eqb a b)
eq_T a b e = subst (λ x. T (eqb a x)) e (eqb_refl a)
