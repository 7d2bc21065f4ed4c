-- What is below what, as the axioms grow.
use Rattle.std.proofs.Common.{◌≡◌, ℕ, ◌⊎◌, ◌↔◌, List, [], ◌∷◌, ◌++◌, refl, ap, ◌∙◌, inl, inr, ⊎_elim, arith}
use mathlib.Core.List.Memᴰ
use mathlib.Core.List.{Memᴰ}
use Rattle.logic.specs.declared.role.RoleAxiom.{RoleAxiom}
use Rattle.logic.specs.declared.role.RoleAxiom.TheVariants.{Inclusion, Transitivity}
use Rattle.logic.specs.Roles.{inverse, Below, listed, itself, chained, inverted}
use Rattle.closure.proofs.Chains.{Through, Twice, twice_pair, twice_chain, twice_flip}

-- more axioms, more below: only the inclusions count
pub below_mono : (axioms more : List RoleAxiom) → ((r s : ℕ) → Memᴰ (Inclusion r s) axioms → Memᴰ (Inclusion r s) more)
    → (r s : ℕ) → Below axioms r s → Below more r s
below_mono axioms more keep r s (listed m) = listed (keep r s m)
below_mono axioms more keep r s itself = itself
below_mono axioms more keep r s (chained p q) = chained (below_mono axioms more keep r _ p) (below_mono axioms more keep _ s q)
below_mono axioms more keep r s (inverted p) = inverted (below_mono axioms more keep _ _ p)

-- with no axioms a role is below itself alone
pub below_none : (r s : ℕ) → Below [] r s → r ≡ s
below_none r s (listed m) = absurd (Memᴰ.not-nil m)
below_none r s itself = refl
below_none r s (chained p q) = below_none r _ p ∙ below_none _ s q
below_none r s (inverted p) = ap inverse (below_none _ _ p)

-- a transitivity more, last or first, changes nothing
inclusion≢transitivity : {r s t : ℕ} → Inclusion r s ≡ Transitivity t → ⊥
inclusion≢transitivity e = let z : ◌≡◌ {A = ℕ} 0 1 = cc in omega arith

pub below_transitivity : (axioms : List RoleAxiom) (t r s : ℕ) → Below axioms r s ↔ Below (axioms ++ (Transitivity t ∷ [])) r s
below_transitivity axioms t r s = (
  below_mono axioms _ (λ i j m. Memᴰ.append_left _ m) r s,
  below_mono _ axioms (λ i j m. ⊎_elim (λ h. h) (λ h. absurd (inclusion≢transitivity (Memᴰ.eq_of_singleton h))) (Memᴰ.append_cases axioms m)) r s,
)

pub below_transitivity_first : (axioms : List RoleAxiom) (t r s : ℕ) → Below axioms r s ↔ Below (Transitivity t ∷ axioms) r s
below_transitivity_first axioms t r s = (
  below_mono axioms _ (λ i j m. Memᴰ.tail m) r s,
  below_mono _ axioms (λ i j m. ⊎_elim (λ e. absurd (inclusion≢transitivity e)) (λ h. h) (Memᴰ.cases_cons m)) r s,
)

-- one inclusion more: `more` has the inclusions of `axioms`, and that of r in s
module _
    (axioms more : List RoleAxiom) (r s : ℕ)
    (keep : (i j : ℕ) → Memᴰ (Inclusion i j) axioms → Memᴰ (Inclusion i j) more)
    (here : Memᴰ (Inclusion r s) more)
    (either : (i j : ℕ) → Memᴰ (Inclusion i j) more → Memᴰ (Inclusion i j) axioms ⊎ (Inclusion i j ≡ Inclusion r s))
  where
    once_in : (i j : ℕ) → Through (Below axioms) r s i j → Below more i j
    once_in i j (inl p) = below_mono axioms more keep i j p
    once_in i j (inr p) = chained (below_mono axioms more keep i r p.0) (chained (listed here) (below_mono axioms more keep s j p.1))

    more_in : (i j : ℕ) → Twice (Below axioms) r s i j → Below more i j
    more_in i j (inl p) = once_in i j p
    more_in i j (inr p) = chained (once_in i (inverse r) p.0) (chained (inverted (listed here)) (once_in (inverse s) j p.1))

    more_out : (i j : ℕ) → Below more i j → Twice (Below axioms) r s i j
    more_out i j (listed m) = ⊎_elim (λ h. inl (inl (listed h))) new (either i j m)
      where
        new : Inclusion i j ≡ Inclusion r s → Twice (Below axioms) r s i j
        new e = let p : i ≡ r = cc in let q : j ≡ s = cc in rw (p, q) (twice_pair (Below axioms) (λ a. itself) (λ a b c x y. chained x y) r s)
    more_out i j itself = inl (inl itself)
    more_out i j (chained p q) =
        twice_chain (Below axioms) (λ a. itself) (λ a b c x y. chained x y) r s i _ j (more_out i _ p) (more_out _ j q)
    more_out i j (inverted p) =
        twice_flip (Below axioms) (λ a. itself) (λ a b c x y. chained x y) r s (λ a b x. inverted x) _ _ (more_out _ _ p)

-- last or first in the list, it puts in the pair and its inverse
pub below_inclusion : (axioms : List RoleAxiom) (r s i j : ℕ) → Twice (Below axioms) r s i j ↔ Below (axioms ++ (Inclusion r s ∷ [])) i j
below_inclusion axioms r s i j = (more_in axioms _ r s keep here either i j, more_out axioms _ r s keep here either i j)
  where
    keep : (a b : ℕ) → Memᴰ (Inclusion a b) axioms → Memᴰ (Inclusion a b) (axioms ++ (Inclusion r s ∷ []))
    keep a b m = Memᴰ.append_left _ m

    here : Memᴰ (Inclusion r s) (axioms ++ (Inclusion r s ∷ []))
    here = Memᴰ.append_right axioms (Memᴰ.head refl)

    either : (a b : ℕ) → Memᴰ (Inclusion a b) (axioms ++ (Inclusion r s ∷ [])) → Memᴰ (Inclusion a b) axioms ⊎ (Inclusion a b ≡ Inclusion r s)
    either a b m = ⊎_elim (λ h. inl h) (λ h. inr (Memᴰ.eq_of_singleton h)) (Memᴰ.append_cases axioms m)

pub below_inclusion_first : (axioms : List RoleAxiom) (r s i j : ℕ) → Twice (Below axioms) r s i j ↔ Below (Inclusion r s ∷ axioms) i j
below_inclusion_first axioms r s i j = (more_in axioms _ r s keep here either i j, more_out axioms _ r s keep here either i j)
  where
    keep : (a b : ℕ) → Memᴰ (Inclusion a b) axioms → Memᴰ (Inclusion a b) (Inclusion r s ∷ axioms)
    keep a b m = Memᴰ.tail m

    here : Memᴰ (Inclusion r s) (Inclusion r s ∷ axioms)
    here = Memᴰ.head refl

    either : (a b : ℕ) → Memᴰ (Inclusion a b) (Inclusion r s ∷ axioms) → Memᴰ (Inclusion a b) axioms ⊎ (Inclusion a b ≡ Inclusion r s)
    either a b m = ⊎_elim (λ e. inr e) (λ h. inl h) (Memᴰ.cases_cons m)
