-- A model is judged in one way, whatever becomes of the working rows.
use Rattle.std.proofs.Common.{◌≡◌, ℕ, ◌+◌, List, Some, None, Ok, Err, Result, sym, refl, ap, ◌∙◌, ⊎_elim}
use Rattle.std.proofs.lemmas.Bool.{cases_order}
use Rattle.refusals.specs.declared.Refusal.{Refusal}
use Rattle.refusals.proofs.Numbers.{returned_alike}
use Rattle.logic.specs.declared.concept.Concept.{Concept}
use Rattle.logic.specs.declared.role.RoleAxiom.{RoleAxiom}
use Rattle.logic.specs.declared.role.RoleAxiom.TheVariants.{Inclusion}
use Rattle.logic.specs.Interpretations.{MeetsRoleAxioms}
use Rattle.logic.specs.Meaning.{Meets}
use Rattle.models.specs.declared.Model.{Model}
use Rattle.models.specs.Firsts.{First}
use Rattle.models.specs.Models.{WellFormed, FirstFlaw, not_sized, bad_mark, bad_edge, described}
use Rattle.models.specs.Judging.{Satisfied, RoleAxiomBroken, AxiomMissed, RefusedAs, wrong_form, breaks_role_axiom, misses_axiom, point_misses, JudgedBy}
use Rattle.models.proofs.JudgingFacts.{member_at}

-- the first number that fails is one

none_fails : (P : ℕ → Type 0) (n i : ℕ) → First P n None → First P n (Some i) → ⊥
none_fails P n i all one = one.1 (all i one.0)

one_first : (P : ℕ → Type 0) (n i j : ℕ) → First P n (Some i) → First P n (Some j) → i ≡ j
one_first P n i j p q = ⊎_elim (λ e. e) (λ l. absurd (⊎_elim (λ h. p.1 (q.2 i h)) (λ h. q.1 (p.2 j h)) l)) (cases_order i j)

-- and so is the first flaw

flaw_formed : (m : Model) (k : ℕ) → FirstFlaw m k → WellFormed m → ⊥
flaw_formed m k (not_sized f) w = f w.sized
flaw_formed m k (bad_mark {i = i} s b) w = none_fails _ _ i w.good_marks b
flaw_formed m k (bad_edge {i = i} s g b) w = none_fails _ _ i w.good_edges b

one_flaw : (m : Model) (k j : ℕ) → FirstFlaw m k → FirstFlaw m j → k ≡ j
one_flaw m k j (not_sized f) (not_sized g) = refl
one_flaw m k j (not_sized f) (bad_mark s b) = absurd (f s)
one_flaw m k j (not_sized f) (bad_edge s g b) = absurd (f s)
one_flaw m k j (bad_mark s b) (not_sized f) = absurd (f s)
one_flaw m k j (bad_mark {i = i} s b) (bad_mark {i = i'} t c) = ap (λ n. 1 + n) (one_first _ _ i i' b c)
one_flaw m k j (bad_mark {i = i} s b) (bad_edge t g c) = absurd (none_fails _ _ i g b)
one_flaw m k j (bad_edge s g b) (not_sized f) = absurd (f s)
one_flaw m k j (bad_edge s g b) (bad_mark {i = i} t c) = absurd (none_fails _ _ i g c)
one_flaw m k j (bad_edge {i = i} s g b) (bad_edge {i = i'} t h c) = ap (λ n. 1 + m.mark_count + n) (one_first _ _ i i' b c)

module _ (roles : List RoleAxiom) (cs : List Concept) (listed label : List ℕ) (m : Model) (old : List ℕ) where
  module _ {new : List ℕ} where
    broken_meets : (i : ℕ) → RoleAxiomBroken roles cs listed label m old new i → MeetsRoleAxioms (described m) roles → ⊥
    broken_meets i b meets = b.first_broken.1 (meets _ (member_at (Inclusion 0 0) roles i b.first_broken.0))

    missed_meets : (i : ℕ) → AxiomMissed roles cs listed label m old new i → Meets (described m) roles cs listed → ⊥
    missed_meets i a meets = a.first_missed.1 (meets.meets_axioms _ (member_at 0 listed i a.first_missed.0))

  module _ {new other : List ℕ} where
    -- it is taken or refused, and not both
    not_both : (n p : ℕ) → Satisfied roles cs listed label m old new → RefusedAs roles cs listed label m old other n p → ⊥
    not_both n p s (wrong_form e flaw same) = flaw_formed m p flaw s.formed
    not_both n p s (breaks_role_axiom e b) = broken_meets p b s.meets.meets_roles
    not_both n p s (misses_axiom e a) = missed_meets p a s.meets
    not_both n p s (point_misses e x) = x.least_missed.1 (s.point_lies p x.least_missed.0)

    -- and it is refused with one number and one place
    one_refused : (n p k q : ℕ)
        → RefusedAs roles cs listed label m old new n p → RefusedAs roles cs listed label m old other k q → (n ≡ k) × (p ≡ q)
    one_refused n p k q (wrong_form e f s) (wrong_form e' f' s') = (e ∙ sym e', one_flaw m p q f f')
    one_refused n p k q (wrong_form e f s) (breaks_role_axiom e' b) = absurd (flaw_formed m p f b.formed)
    one_refused n p k q (wrong_form e f s) (misses_axiom e' a) = absurd (flaw_formed m p f a.formed)
    one_refused n p k q (wrong_form e f s) (point_misses e' x) = absurd (flaw_formed m p f x.formed)
    one_refused n p k q (breaks_role_axiom e b) (wrong_form e' f s) = absurd (flaw_formed m q f b.formed)
    one_refused n p k q (breaks_role_axiom e b) (breaks_role_axiom e' b') =
        (e ∙ sym e', one_first _ _ p q b.first_broken b'.first_broken)
    one_refused n p k q (breaks_role_axiom e b) (misses_axiom e' a) = absurd (broken_meets p b a.meets_roles)
    one_refused n p k q (breaks_role_axiom e b) (point_misses e' x) = absurd (broken_meets p b x.meets.meets_roles)
    one_refused n p k q (misses_axiom e a) (wrong_form e' f s) = absurd (flaw_formed m q f a.formed)
    one_refused n p k q (misses_axiom e a) (breaks_role_axiom e' b) = absurd (broken_meets q b a.meets_roles)
    one_refused n p k q (misses_axiom e a) (misses_axiom e' a') = (e ∙ sym e', one_first _ _ p q a.first_missed a'.first_missed)
    one_refused n p k q (misses_axiom e a) (point_misses e' x) = absurd (missed_meets p a x.meets)
    one_refused n p k q (point_misses e x) (wrong_form e' f s) = absurd (flaw_formed m q f x.formed)
    one_refused n p k q (point_misses e x) (breaks_role_axiom e' b) = absurd (broken_meets q b x.meets.meets_roles)
    one_refused n p k q (point_misses e x) (misses_axiom e' a) = absurd (missed_meets q a x.meets)
    one_refused n p k q (point_misses e x) (point_misses e' x') = (e ∙ sym e', one_first _ _ p q x.least_missed x'.least_missed)

  pub one_judged : (new other : List ℕ) (r s : Result (Unit {0}) Refusal)
      → JudgedBy roles cs listed label m old new r → JudgedBy roles cs listed label m old other s → r ≡ s
  one_judged new other (Ok u) (Ok v) p q = refl
  one_judged new other (Ok u) (Err y) p q = absurd (not_both _ _ p q)
  one_judged new other (Err x) (Ok v) p q = absurd (not_both _ _ q p)
  one_judged new other (Err x) (Err y) p q =
      let (n, k) = one_refused _ _ _ _ p q in
      ap (λ f. Err f) (returned_alike x y (λ i. (n i, k i)))
