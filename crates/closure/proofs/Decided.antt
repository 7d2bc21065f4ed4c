-- The tests decide what is below what, and what is transitive.
use Rattle.std.proofs.Common.{◌≡◌, sym, ap, arith, ℕ, Bool, true, false, ◌&&◌, ◌||◌, T, eqb, ◌⊎◌, ◌↔◌, List, [], ◌∷◌, inl, inr, ⊎_elim, eqb→eq}
use mathlib.Core.Logic.Iff
use mathlib.Core.List.Memᴰ
use mathlib.Core.List.{Memᴰ}
use Rattle.std.proofs.lemmas.Float.{T_from_true}
use Rattle.bits.proofs.Tests.{T_true, or_out, or_left, or_right}
use lib.Dec.{eqb_refl}
use Rattle.logic.specs.declared.role.RoleAxiom.{RoleAxiom}
use Rattle.logic.specs.declared.role.RoleAxiom.TheVariants.{Inclusion, Transitivity}
use Rattle.logic.specs.Roles.{inverse, Below, itself, Transitive}
use Rattle.closure.specs.Closure.{is_through}
use Rattle.closure.specs.Decide.{is_below, is_transitive}
use Rattle.closure.proofs.Chains.{Through, Twice}
use Rattle.closure.proofs.BelowFacts.{below_none, below_transitivity_first, below_inclusion_first}

or_and_out : (x y z : Bool) → T (x || (y && z)) → T x ⊎ (T y × T z)
or_and_out true y z h = inl tt
or_and_out false true true h = inr (tt, tt)
or_and_out false true false h = absurd h
or_and_out false false z h = absurd h

or_and_in : (x y z : Bool) → T x ⊎ (T y × T z) → T (x || (y && z))
or_and_in true y z h = tt
or_and_in false true true h = tt
or_and_in false true false (inl h) = absurd h
or_and_in false true false (inr h) = absurd h.1
or_and_in false false z (inl h) = absurd h
or_and_in false false z (inr h) = absurd h.0

-- a test of R at the three places that count gives a test of R with a pair put in
pub through_decided : (f : ℕ → ℕ → Bool) (R : ℕ → ℕ → Type 0) (r s i j : ℕ) → T (f i j) ↔ R i j → T (f i r) ↔ R i r → T (f s j) ↔ R s j
    → T (is_through f r s i j) ↔ Through R r s i j
through_decided f R r s i j x y z = (
  λ h. ⊎_elim (λ p. inl (x.0 p)) (λ p. inr (y.0 p.0, z.0 p.1)) (or_and_out (f i j) (f i r) (f s j) h),
  λ h. or_and_in (f i j) (f i r) (f s j) (⊎_elim (λ p. inl (x.1 p)) (λ p. inr (y.1 p.0, z.1 p.1)) h),
)

-- and with its inverse after it
twice_decided : (f : ℕ → ℕ → Bool) (R : ℕ → ℕ → Type 0) → ((i j : ℕ) → T (f i j) ↔ R i j) → (r s i j : ℕ)
    → T (is_through (is_through f r s) (inverse r) (inverse s) i j) ↔ Twice R r s i j
twice_decided f R all r s i j =
    through_decided (is_through f r s) (Through R r s) (inverse r) (inverse s) i j (once i j) (once i (inverse r)) (once (inverse s) j)
  where
    once : (a b : ℕ) → T (is_through f r s a b) ↔ Through R r s a b
    once a b = through_decided f R r s a b (all a b) (all a r) (all s b)

-- with no axioms, below is equal
pub eqb_decided : (i j : ℕ) → T (eqb i j) ↔ Below [] i j
eqb_decided i j = (λ h. rw (eqb→eq i j h) itself, λ p. rw (below_none i j p) (eqb_refl j))

pub below_decided : (axioms : List RoleAxiom) (r s : ℕ) → T (is_below axioms r s) ↔ Below axioms r s
unfolding is_below
below_decided [] r s = eqb_decided r s
below_decided (Inclusion a b ∷ axioms) r s =
    Iff.trans (twice_decided (is_below axioms) (Below axioms) (below_decided axioms) a b r s) (below_inclusion_first axioms a b r s)
below_decided (Transitivity a ∷ axioms) r s = Iff.trans (below_decided axioms r s) (below_transitivity_first axioms a r s)

-- an axiom in front of others
in_front : (a : RoleAxiom) (axioms : List RoleAxiom) (r : ℕ) → Transitive axioms r → Transitive (a ∷ axioms) r
in_front a axioms r (inl m) = inl (Memᴰ.tail m)
in_front a axioms r (inr m) = inr (Memᴰ.tail m)

behind : (a : RoleAxiom) (axioms : List RoleAxiom) (r : ℕ) → Transitive (a ∷ axioms) r
    → ((Transitivity r ≡ a) ⊎ (Transitivity (inverse r) ≡ a)) ⊎ Transitive axioms r
behind a axioms r (inl m) = ⊎_elim (λ e. inl (inl e)) (λ t. inr (inl t)) (Memᴰ.cases_cons m)
behind a axioms r (inr m) = ⊎_elim (λ e. inl (inr e)) (λ t. inr (inr t)) (Memᴰ.cases_cons m)

pub transitive_decided : (axioms : List RoleAxiom) (r : ℕ) → T (is_transitive axioms r) ↔ Transitive axioms r
unfolding is_transitive
transitive_decided [] r = (λ h. absurd h, ⊎_elim (λ m. absurd (Memᴰ.not-nil m)) (λ m. absurd (Memᴰ.not-nil m)))
transitive_decided (Inclusion a b ∷ axioms) r = (
  λ h. in_front (Inclusion a b) axioms r ((transitive_decided axioms r).0 h),
  λ t. ⊎_elim (⊎_elim no_name no_name) (transitive_decided axioms r).1 (behind (Inclusion a b) axioms r t),
)
  where
    no_name : {y : ℕ} → Transitivity y ≡ Inclusion a b → T (is_transitive axioms r)
    no_name e = let z : ◌≡◌ {A = ℕ} 0 1 = cc in absurd (omega arith)
transitive_decided (Transitivity a ∷ axioms) r = (
  λ h. ⊎_elim named (λ k. in_front (Transitivity a) axioms r ((transitive_decided axioms r).0 k)) (or_out (eqb a r || eqb a (inverse r)) (is_transitive axioms r) h),
  λ t. ⊎_elim
      (λ e. or_left (eqb a r || eqb a (inverse r)) (is_transitive axioms r) (its_name e))
      (λ k. or_right (eqb a r || eqb a (inverse r)) (is_transitive axioms r) ((transitive_decided axioms r).1 k))
      (behind (Transitivity a) axioms r t),
)
  where
    named : T (eqb a r || eqb a (inverse r)) → Transitive (Transitivity a ∷ axioms) r
    named h = ⊎_elim
        (λ e. inl (Memᴰ.head (ap Transitivity (sym (eqb→eq a r e)))))
        (λ e. inr (Memᴰ.head (ap Transitivity (sym (eqb→eq a (inverse r) e)))))
        (or_out (eqb a r) (eqb a (inverse r)) h)

    its_name : (Transitivity r ≡ Transitivity a) ⊎ (Transitivity (inverse r) ≡ Transitivity a) → T (eqb a r || eqb a (inverse r))
    its_name (inl e) = let q : a ≡ r = cc in or_left (eqb a r) (eqb a (inverse r)) (rw q (eqb_refl r))
    its_name (inr e) = let q : a ≡ inverse r = cc in or_right (eqb a r) (eqb a (inverse r)) (rw q (eqb_refl (inverse r)))

-- the same as equations
pub true_below : (axioms : List RoleAxiom) (r s : ℕ) → is_below axioms r s ≡ true → Below axioms r s
true_below axioms r s h = (below_decided axioms r s).0 (T_from_true (is_below axioms r s) h)

pub below_true : (axioms : List RoleAxiom) (r s : ℕ) → Below axioms r s → is_below axioms r s ≡ true
below_true axioms r s b = T_true (is_below axioms r s) ((below_decided axioms r s).1 b)

pub true_transitive : (axioms : List RoleAxiom) (r : ℕ) → is_transitive axioms r ≡ true → Transitive axioms r
true_transitive axioms r h = (transitive_decided axioms r).0 (T_from_true (is_transitive axioms r) h)

pub transitive_true : (axioms : List RoleAxiom) (r : ℕ) → Transitive axioms r → is_transitive axioms r ≡ true
transitive_true axioms r t = T_true (is_transitive axioms r) ((transitive_decided axioms r).1 t)
