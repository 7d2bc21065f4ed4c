-- Two concepts more are paired: who has which mate then.
use Rattle.std.proofs.Common.{◌≡◌, ℕ, ◌⊎◌, Some, None, Option, sym, refl, ap, ◌∙◌, inl, inr, ⊎_elim, arith}
use Rattle.std.proofs.lemmas.Bool.{cases_eq, eq-eqb, ne_eqb}
use Rattle.logic.specs.declared.concept.Concept.{Concept}
use Rattle.logic.specs.Theories.{AreMates}
use Rattle.logic.specs.Pairing.{Negates, top_bottom, name_not_name, and_or, only_exists, swapped, joined}

module _ (m : ℕ → Option ℕ) (c d : ℕ) where
  pub mate_first : joined m c d c ≡ Some d
  mate_first = rw (eq-eqb c c refl) refl

  pub mate_second : joined m c d d ≡ Some c
  mate_second = ⊎_elim
      (λ (e : d ≡ c). rw (eq-eqb d c e) (ap (λ x. Some x) e))
      (λ (n : d ≡ c → ⊥). rw (ne_eqb d c n, eq-eqb d d refl) refl)
      (cases_eq d c)

  pub mate_other : (x : ℕ) → (x ≡ c → ⊥) → (x ≡ d → ⊥) → joined m c d x ≡ m x
  mate_other x p q = rw (ne_eqb x c p, ne_eqb x d q) refl

  -- whoever has a mate now is one of the two, or had it before
  pub mates_now : (x y : ℕ) → AreMates (joined m c d) x y → ((x ≡ c) × (y ≡ d)) ⊎ (((x ≡ d) × (y ≡ c)) ⊎ ((x ≡ c → ⊥) × (x ≡ d → ⊥) × AreMates m x y))
  mates_now x y h = ⊎_elim
      (λ (e : x ≡ c). inl (e, let s : joined m c d c ≡ Some y = ap (joined m c d) (sym e) ∙ h in let t = mate_first in cc))
      (λ (p : x ≡ c → ⊥). inr (⊎_elim
      (λ (e : x ≡ d). inl (e, let s : joined m c d d ≡ Some y = ap (joined m c d) (sym e) ∙ h in let t = mate_second in cc))
      (λ (q : x ≡ d → ⊥). inr (p, q, sym (mate_other x p q) ∙ h))
      (cases_eq x d)))
      (cases_eq x c)

  -- mates stay mates, if the two had none
  module _ (none_c : m c ≡ None) (none_d : m d ≡ None) where
    apart : (x y e : ℕ) → m e ≡ None → AreMates m x y → x ≡ e → ⊥
    apart x y e n h q = let s : m e ≡ Some y = ap m (sym q) ∙ h in let z : ◌≡◌ {A = ℕ} 0 1 = cc in omega arith

    pub still_mates : (x y : ℕ) → AreMates m x y → AreMates (joined m c d) x y
    still_mates x y h = mate_other x (apart x y c none_c h) (apart x y d none_d h) ∙ h

    pub still_negates : (j k : Concept) → Negates m j k → Negates (joined m c d) j k
    still_negates j k top_bottom = top_bottom
    still_negates j k name_not_name = name_not_name
    still_negates j k (and_or p q) = and_or (still_mates _ _ p) (still_mates _ _ q)
    still_negates j k (only_exists p) = only_exists (still_mates _ _ p)
    still_negates j k (swapped n) = swapped (still_negates k j n)
