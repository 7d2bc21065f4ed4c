-- The ten rules are sound, in the table's words.
use Rattle.std.proofs.Common.{◌≡◌, ℕ, ◌-◌, ◌<◌, ◌≤◌, Bool, true, get_or, subst, ⊎_elim, arith}
use Rattle.logic.specs.declared.concept.Concept.TheVariants.{Bottom, And, Or, Only, Exists}
use Rattle.logic.specs.Concepts.{At}
use Rattle.logic.specs.Roles.{inverse, Transitive}
use Rattle.logic.specs.Interpretations.{Interpretation, Element, Leads}
use Rattle.logic.specs.Meaning.{LiesIn, in_only, in_exists}
use Rattle.logic.specs.Laws.{Complements}
use Rattle.logic.specs.Theories.{Theory, AreMates, MeetsAxioms}
use Rattle.logic.specs.Keeping.{Kept}
use Rattle.logic.proofs.RoleFacts.{leads_back, leads_round, below_is_sound, transitive_is_sound}
use Rattle.logic.proofs.Meanings.{at_means}
use Rattle.logic.proofs.Complements.{opposites_are_complements}
use Rattle.logic.proofs.Keeping.{mates_opposite}
use Rattle.schemas.specs.Table.{Applies, bottom, clash, conjunction, disjunction, narrower, general, cut, inverse_cut, transitive_cut, neighbour, conclusions, Lists, kept, first_part, second_part, first_case, second_case, the_narrower, the_general, cut_p, cut_q, inverse_p, inverse_q, inverse_s, transitive_p, transitive_q, transitive_s, asked, passed, carried, of_all}

module _ (t : Theory) (I : Interpretation) (keeps : Kept t) (meets : MeetsAxioms I t) where
  abbrev In : ℕ → ℕ → Type 0
  In c e = LiesIn I t.concepts c e

  complements : (p q : ℕ) → AreMates t.mates p q → Complements I t.concepts p q
  complements p q m = opposites_are_complements I t.concepts p q (mates_opposite t keeps p q m)

  -- some element has all of a conclusion of the step
  abbrev Goes : (ℕ → Bool) → ℕ → ℕ → ℕ → ℕ → Type 0
  Goes X n p q s =
      (i : ℕ) × (i < get_or conclusions (n - 1) 0) × ((e : ℕ) × Element I e × ((c : ℕ) → Lists t X n p q s i c → In c e))

  -- the element has one of two mates
  cuts : (X : ℕ → Bool) (n p q s e : ℕ) → 2 ≤ get_or conclusions (n - 1) 0 → AreMates t.mates p q → Element I e
      → (In p e → (c : ℕ) → Lists t X n p q s 0 c → In c e) → (In q e → (c : ℕ) → Lists t X n p q s 1 c → In c e) → Goes X n p q s
  cuts X n p q s e two m le first second = ⊎_elim
      (λ h. (0, omega arith, (e, le, first h)))
      (λ h. (1, omega arith, (e, le, second h)))
      (complements p q m e).0

  -- rule 8: each neighbour by R of an element of q has the element itself as a neighbour by R'
  way_back : (q s r d e : ℕ) → At t.concepts s (Only r d) → At t.concepts d (Exists (inverse r) q) → Element I e → In q e → In s e
  way_back q s r d e s-is d-is le h = in_only s-is (λ y ly g. in_exists d-is e le (leads_round I r y e g) h)

  -- rule 9: an element that R leads from to an element of q has no p, since R is transitive, and so has q
  all_before : (p q s r c e : ℕ) → AreMates t.mates p q → At t.concepts p (Only r c) → Transitive t.role_axioms r
      → At t.concepts s (Only (inverse r) q) → Element I e → In q e → In s e
  all_before p q s r c e m p_is chains s-is le h = in_only s-is (λ y ly g.
      ⊎_elim (λ u. absurd (no_p y ly (leads_back I r e y g) u)) (λ u. u) (complements p q m y).0)
    where
      no_p : (y : ℕ) → Element I y → Leads I r y e → In p y → ⊥
      no_p y ly g u = (complements p q m e).1
          (in_only p_is (λ z lz k. at_means I t.concepts p y (Only r c) p_is u z lz
          (transitive_is_sound I t.role_axioms r meets.meets_roles chains y e z ly le lz g k)))
          h

  module _ (X : ℕ → Bool) (e : ℕ) (le : Element I e) (all : (c : ℕ) → X c ≡ true → In c e) where
    pub step_goes : (n p q s : ℕ) → Applies t X n p q s → Goes X n p q s
    step_goes n p q s (bottom h a) = absurd (at_means I t.concepts p e Bottom a (all p h))
    step_goes n p q s (clash h g m) = absurd ((complements p q m e).1 (all p h) (all q g))
    step_goes n p q s (conjunction h a) = (0, omega arith, (e, le, go))
      where
        go : (c : ℕ) → Lists t X 3 p 0 0 0 c → In c e
        go c (kept _ _ _ x) = all c x
        go c (first_part b) = (at_means I t.concepts p e (And c _) b (all p h)).0
        go c (second_part b) = (at_means I t.concepts p e (And _ c) b (all p h)).1
    step_goes n p q s (disjunction {c = c} {d = d} h a) = ⊎_elim
        (λ u. (0, omega arith, (e, le, go_first u)))
        (λ u. (1, omega arith, (e, le, go_second u)))
        (at_means I t.concepts p e (Or c d) a (all p h))
      where
        go_first : In c e → (k : ℕ) → Lists t X 4 p 0 0 0 k → In k e
        go_first u k (kept _ _ _ x) = all k x
        go_first u k (first_case {d = j} b) = let z : Or k j ≡ Or c d = cc in let y : c ≡ k = cc in subst (λ (j : ℕ). In j e) y u

        go_second : In d e → (k : ℕ) → Lists t X 4 p 0 0 1 k → In k e
        go_second u k (kept _ _ _ x) = all k x
        go_second u k (second_case {c = j} b) =
            let z : Or j k ≡ Or c d = cc in let y : d ≡ k = cc in subst (λ (j : ℕ). In j e) y u
    step_goes n p q s (narrower {r = r} {s = r'} {c = d} h p_is q-is b) = (0, omega arith, (e, le, go))
      where
        go : (c : ℕ) → Lists t X 5 p q 0 0 c → In c e
        go c (kept _ _ _ x) = all c x
        go c the_narrower = in_only q-is (λ y ly g.
            at_means I t.concepts p e (Only r d) p_is (all p h) y ly
            (below_is_sound I t.role_axioms r' r meets.meets_roles b e y le ly g))
    step_goes n p q s (general m) = (0, omega arith, (e, le, go))
      where
        go : (c : ℕ) → Lists t X 6 p 0 0 0 c → In c e
        go c (kept _ _ _ x) = all c x
        go c the_general = meets.meets_axioms p m e le
    step_goes n p q s (cut m) = cuts X 7 p q 0 e (omega arith) m le first second
      where
        first : In p e → (c : ℕ) → Lists t X 7 p q 0 0 c → In c e
        first h c (kept _ _ _ x) = all c x
        first h c cut_p = h

        second : In q e → (c : ℕ) → Lists t X 7 p q 0 1 c → In c e
        second h c (kept _ _ _ x) = all c x
        second h c cut_q = h
    step_goes n p q s (inverse_cut {r = r} {e = d} m s-is d-is) = cuts X 8 p q s e (omega arith) m le first second
      where
        first : In p e → (c : ℕ) → Lists t X 8 p q s 0 c → In c e
        first h c (kept _ _ _ x) = all c x
        first h c inverse_p = h

        second : In q e → (c : ℕ) → Lists t X 8 p q s 1 c → In c e
        second h c (kept _ _ _ x) = all c x
        second h c inverse_q = h
        second h c inverse_s = way_back q s r d e s-is d-is le h
    step_goes n p q s (transitive_cut {r = r} {c = d} m p_is chains s-is) = cuts X 9 p q s e (omega arith) m le first second
      where
        first : In p e → (c : ℕ) → Lists t X 9 p q s 0 c → In c e
        first h c (kept _ _ _ x) = all c x
        first h c transitive_p = h

        second : In q e → (c : ℕ) → Lists t X 9 p q s 1 c → In c e
        second h c (kept _ _ _ x) = all c x
        second h c transitive_q = h
        second h c transitive_s = all_before p q s r d e m p_is chains s-is le h
    step_goes n p q s (neighbour {r = r} {c = d} h a) = (0, omega arith, (y, ly, go))
      where
        found : (y : ℕ) × Element I y × Leads I r e y × In d y
        found = at_means I t.concepts p e (Exists r d) a (all p h)

        y : ℕ
        y = found.0

        ly : Element I y
        ly = found.1

        same_role : (r' j : ℕ) → At t.concepts p (Exists r' j) → Leads I r' e y
        same_role r' j b =
            let z : Exists r' j ≡ Exists r d = cc in
            let w : r ≡ r' = cc in subst (λ (k : ℕ). Leads I k e y) w found.2

        go : (c : ℕ) → Lists t X 10 p 0 0 0 c → In c y
        go c (kept _ u _ _) = absurd (omega arith)
        go c (asked {r = r'} b) =
            let z : Exists r' c ≡ Exists r d = cc in
            let w : d ≡ c = cc in subst (λ (k : ℕ). In k y) w found.3
        go c (passed {r = r'} {a = j} {x = x} b i only) =
            at_means I t.concepts x e (Only r' c) only (all x i) y ly (same_role r' j b)
        go c (carried {r = ra} {r' = rb} {a = j} {d = k} b i only under chains) = in_only only (λ z lz w.
            at_means I t.concepts c e (Only rb k) only (all c i) z lz
            (transitive_is_sound I t.role_axioms rb meets.meets_roles chains e y z le ly lz
            (below_is_sound I t.role_axioms ra rb meets.meets_roles under e y le ly (same_role ra j b)) w))
        go c (of_all m) = meets.meets_axioms c m y ly
