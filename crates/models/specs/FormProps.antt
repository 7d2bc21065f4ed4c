-- That a model is well formed has one proof at most, as a ghost field asks.
use Rattle.std.specs.Prelude.{◌≡◌, ℕ, ◌<◌, ◌⊎◌}
use Rattle.std.specs.Cmp.{below_irrefl}
use mathlib.Core.Path.{ap, subst}
use mathlib.Core.Logic.{inl, inr}
use denote.Struct.Props as logic
use Rattle.models.specs.declared.Model.{Model}
use Rattle.models.specs.Items.{PairBefore, TripleBefore}
use Rattle.models.specs.Models.{WellFormed}

either_prop : {A B : Type 0} → IsProp A → IsProp B → (A → B → ⊥) → IsProp (A ⊎ B)
either_prop p q apart (inl a) (inl b) = ap inl (p a b)
either_prop p q apart (inl a) (inr b) = absurd (apart a b)
either_prop p q apart (inr a) (inl b) = absurd (apart b a)
either_prop p q apart (inr a) (inr b) = ap inr (q a b)

not_both : (x y : ℕ) (Q : Type 0) → x < y → (x ≡ y) × Q → ⊥
not_both x y Q l e = below_irrefl y (subst (λ z. z < y) e.0 l)

PairBefore-prop : (x y x' y' : ℕ) → IsProp (PairBefore x y x' y')
PairBefore-prop x y x' y' =
    either_prop (Prim.hlevel logic.props) (Prim.hlevel logic.props) (not_both x x' (y < y'))

TripleBefore-prop : (r x y r' x' y' : ℕ) → IsProp (TripleBefore r x y r' x' y')
TripleBefore-prop r x y r' x' y' =
    either_prop (Prim.hlevel logic.props) (Prim.hlevel (logic.props, PairBefore-prop)) (not_both r r' (PairBefore x y x' y'))

pub WellFormed-prop : (m : Model) → IsProp (WellFormed m)
WellFormed-prop m = Prim.hlevel (logic.props, PairBefore-prop, TripleBefore-prop)
