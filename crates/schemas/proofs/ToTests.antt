-- What the table says, the tests of the house say.
use Rattle.std.proofs.Common.{◌≡◌, ℕ, zero, suc, ◌-◌, ◌<◌, ◌≤◌, Bool, true, ◌&&◌, ◌||◌, eqb, ltb, List, [], ◌∷◌, length, get_or, refl, ap, arith}
use Rattle.std.proofs.lemmas.Bool.{and_from, or_left, or_right, eq-eqb, lt-ltb}
use Rattle.std.proofs.lemmas.Float.{T_from_true}
use Rattle.bits.specs.Among.{among}
use Rattle.bits.specs.Below.{some_below}
use Rattle.bits.proofs.Tests.{T_true}
use Rattle.bits.proofs.SomeBelow.{there_some}
use Rattle.logic.specs.declared.concept.Concept.TheVariants.{Bottom, And, Or, Only, Exists}
use Rattle.logic.specs.Roles.{inverse}
use Rattle.logic.specs.Theories.{Theory, concept_at, are_mates}
use Rattle.logic.proofs.Pairings.{some_found, at_found}
use Rattle.closure.specs.Decide.{is_below, is_transitive}
use Rattle.closure.proofs.Decided.{below_true, transitive_true}
use Rattle.vocabulary.proofs.AxiomRows.{among_true}
use Rattle.schemas.specs.Table.{Applies, bottom, clash, conjunction, disjunction, narrower, general, cut, inverse_cut, transitive_cut, neighbour, conclusions, Lists, kept, first_part, second_part, first_case, second_case, the_narrower, the_general, cut_p, cut_q, inverse_p, inverse_q, inverse_s, transitive_p, transitive_q, transitive_s, asked, passed, carried, of_all}
use Rattle.schemas.specs.Tests.{first_of, second_of}
use Rattle.schemas.specs.House.{gives, house}

-- the first and the second of the numbers
among_here : (a c : ℕ) (ms : List ℕ) → a ≡ c → among (a ∷ ms) c ≡ true
among_here a c ms e = or_left (eqb a c) (among ms c) (eq-eqb a c e)

among_next : (m a c : ℕ) (ms : List ℕ) → a ≡ c → among (m ∷ a ∷ ms) c ≡ true
among_next m a c ms e = or_right (eqb m c) (among (a ∷ ms) c) (among_here a c ms e)

module _ (t : Theory) (X : ℕ → Bool) where
  pub step_true : (n p q s : ℕ) → Applies t X n p q s → house.applies n t (record { p = p; q = q; s = s }) X ≡ true
  step_true n p q s (bottom h a) = rw (at_found t p Bottom a) (and_from (X p) true h refl)
  step_true n p q s (clash h g m) = and_from (X p) _ h (and_from (X q) _ g
      (and_from (are_mates t.mates p q) true (some_found (t.mates p) q m) refl))
  step_true n p q s (conjunction {c = c} {d = d} h a) = rw (at_found t p (And c d) a) (and_from (X p) true h refl)
  step_true n p q s (disjunction {c = c} {d = d} h a) = rw (at_found t p (Or c d) a) (and_from (X p) true h refl)
  step_true n p q s (narrower {r = r} {s = r'} {c = c} h a b under) = rw (at_found t p (Only r c) a, at_found t q (Only r' c) b)
      (and_from (X p) _ h (and_from (eqb c c) _ (eq-eqb c c refl) (and_from (is_below t.role_axioms r' r) true
      (below_true t.role_axioms r' r under) refl)))
  step_true n p q s (general m) = and_from (among t.axioms p) true (among_true t.axioms p m) refl
  step_true n p q s (cut m) = and_from (are_mates t.mates p q) true (some_found (t.mates p) q m) refl
  step_true n p q s (inverse_cut {r = r} {e = e} m a b) = and_from (are_mates t.mates p q) _ (some_found (t.mates p) q m)
      (rw (at_found t s (Only r e) a, at_found t e (Exists (inverse r) q) b)
      (and_from (eqb (inverse r) (inverse r)) (eqb q q) (eq-eqb (inverse r) (inverse r) refl) (eq-eqb q q refl)))
  step_true n p q s (transitive_cut {r = r} {c = c} m a chains b) =
      and_from (are_mates t.mates p q) _ (some_found (t.mates p) q m)
      (rw (at_found t p (Only r c) a, at_found t s (Only (inverse r) q) b)
      (and_from (is_transitive t.role_axioms r) _ (transitive_true t.role_axioms r chains)
      (and_from (eqb (inverse r) (inverse r)) (eqb q q) (eq-eqb (inverse r) (inverse r) refl) (eq-eqb q q refl))))
  step_true n p q s (neighbour {r = r} {c = c} h a) = rw (at_found t p (Exists r c) a) (and_from (X p) true h refl)

  -- the step applies, c stands, and conclusion i lists it
  concluded : (cites i c : ℕ) (applies lists : Bool) → i < cites → applies ≡ true → c < length t.concepts → lists ≡ true
      → ((ltb i cites && applies) && (ltb c (length t.concepts) && lists)) ≡ true
  concluded cites i c applies lists b a l h =
      and_from (ltb i cites && applies) _ (and_from (ltb i cites) applies (lt-ltb i cites b) a)
      (and_from (ltb c (length t.concepts)) lists (lt-ltb c (length t.concepts) l) h)

  -- the label itself, by rules 3 to 9
  kept_true : (n p q s i c : ℕ) → house.applies n t (record { p = p; q = q; s = s }) X ≡ true → c < length t.concepts
      → 3 ≤ n → n ≤ 9 → i < get_or conclusions (n - 1) 0 → X c ≡ true
      → house.concludes n t (record { p = p; q = q; s = s }) X i c ≡ true
  kept_true zero p q s i c a l lo hi b h = absurd (omega arith)
  kept_true (suc zero) p q s i c a l lo hi b h = absurd (omega arith)
  kept_true (suc (suc zero)) p q s i c a l lo hi b h = absurd (omega arith)
  kept_true (suc (suc (suc zero))) p q s i c a l lo hi b h = concluded 1 i c _ _ b a l (or_left (X c) _ h)
  kept_true (suc (suc (suc (suc zero)))) p q s i c a l lo hi b h = concluded 2 i c _ _ b a l (or_left (X c) _ h)
  kept_true (suc (suc (suc (suc (suc zero))))) p q s i c a l lo hi b h = concluded 1 i c _ _ b a l (or_left (X c) _ h)
  kept_true (suc (suc (suc (suc (suc (suc zero)))))) p q s i c a l lo hi b h = concluded 1 i c _ _ b a l (or_left (X c) _ h)
  kept_true (suc (suc (suc (suc (suc (suc (suc zero))))))) p q s i c a l lo hi b h = concluded 2 i c _ _ b a l (or_left (X c) _ h)
  kept_true (suc (suc (suc (suc (suc (suc (suc (suc zero)))))))) p q s i c a l lo hi b h =
      concluded 2 i c _ _ b a l (or_left (X c) _ h)
  kept_true (suc (suc (suc (suc (suc (suc (suc (suc (suc zero))))))))) p q s i c a l lo hi b h =
      concluded 2 i c _ _ b a l (or_left (X c) _ h)
  kept_true (suc (suc (suc (suc (suc (suc (suc (suc (suc (suc n)))))))))) p q s i c a l lo hi b h = absurd (omega arith)

  -- what a concept of the label gives to a neighbour
  given_true : (r d c : ℕ) → X d ≡ true → d < length t.concepts → gives t r d c ≡ true
      → some_below (length t.concepts) (λ d. X d && gives t r d c) ≡ true
  given_true r d c h l g = T_true _
      (there_some (length t.concepts) (λ d. X d && gives t r d c) d l (T_from_true _ (and_from (X d) (gives t r d c) h g)))

  pub line_true : (n p q s i c : ℕ) → house.applies n t (record { p = p; q = q; s = s }) X ≡ true → c < length t.concepts
      → Lists t X n p q s i c → house.concludes n t (record { p = p; q = q; s = s }) X i c ≡ true
  line_true n p q s i c a l (kept lo hi b h) = kept_true n p q s i c a l lo hi b h
  line_true n p q s i c a l (first_part {d = d} b) =
      concluded 1 0 c _ _ (omega arith) a l
      (or_right (X c) _ (among_here (first_of (concept_at t p)) c (second_of (concept_at t p) ∷ [])
      (ap first_of (at_found t p (And c d) b))))
  line_true n p q s i c a l (second_part {c = d} b) =
      concluded 1 0 c _ _ (omega arith) a l
      (or_right (X c) _ (among_next (first_of (concept_at t p)) (second_of (concept_at t p)) c []
      (ap second_of (at_found t p (And d c) b))))
  line_true n p q s i c a l (first_case {d = d} b) =
      concluded 2 0 c _ _ (omega arith) a l
      (or_right (X c) _ (among_here (first_of (concept_at t p)) c [] (ap first_of (at_found t p (Or c d) b))))
  line_true n p q s i c a l (second_case {c = d} b) =
      concluded 2 1 c _ _ (omega arith) a l
      (or_right (X c) _ (among_here (second_of (concept_at t p)) c [] (ap second_of (at_found t p (Or d c) b))))
  line_true n p q s i c a l the_narrower = concluded 1 0 q _ _ (omega arith) a l (or_right (X q) _ (among_here q q [] refl))
  line_true n p q s i c a l the_general = concluded 1 0 p _ _ (omega arith) a l (or_right (X p) _ (among_here p p [] refl))
  line_true n p q s i c a l cut_p = concluded 2 0 p _ _ (omega arith) a l (or_right (X p) _ (among_here p p [] refl))
  line_true n p q s i c a l cut_q = concluded 2 1 q _ _ (omega arith) a l (or_right (X q) _ (among_here q q [] refl))
  line_true n p q s i c a l inverse_p = concluded 2 0 p _ _ (omega arith) a l (or_right (X p) _ (among_here p p [] refl))
  line_true n p q s i c a l inverse_q = concluded 2 1 q _ _ (omega arith) a l (or_right (X q) _ (among_here q q (s ∷ []) refl))
  line_true n p q s i c a l inverse_s = concluded 2 1 s _ _ (omega arith) a l (or_right (X s) _ (among_next q s s [] refl))
  line_true n p q s i c a l transitive_p = concluded 2 0 p _ _ (omega arith) a l (or_right (X p) _ (among_here p p [] refl))
  line_true n p q s i c a l transitive_q = concluded 2 1 q _ _ (omega arith) a l (or_right (X q) _ (among_here q q (s ∷ []) refl))
  line_true n p q s i c a l transitive_s = concluded 2 1 s _ _ (omega arith) a l (or_right (X s) _ (among_next q s s [] refl))
  line_true n p q s i c a l (asked {r = r} b) = concluded 1 0 c _ _ (omega arith) a l
      (or_left (eqb (second_of (concept_at t p)) c || among t.axioms c) _
      (or_left (eqb (second_of (concept_at t p)) c) (among t.axioms c)
      (eq-eqb (second_of (concept_at t p)) c (ap second_of (at_found t p (Exists r c) b)))))
  line_true n p q s i c a l (passed {r = r} {a = j} {x = d} b h o) = concluded 1 0 c _ _ (omega arith) a l
      (or_right (eqb (second_of (concept_at t p)) c || among t.axioms c) _
      (given_true (first_of (concept_at t p)) d c h o.0 (rw (at_found t d (Only r c) o, at_found t p (Exists r j) b)
      (or_left (eqb r r && eqb c c) _ (and_from (eqb r r) (eqb c c) (eq-eqb r r refl) (eq-eqb c c refl))))))
  line_true n p q s i c a l (carried {r = r} {r' = r'} {a = j} {d = d} b h o under chains) = concluded 1 0 c _ _ (omega arith) a l
      (or_right (eqb (second_of (concept_at t p)) c || among t.axioms c) _
      (given_true (first_of (concept_at t p)) c c h o.0 (rw (at_found t c (Only r' d) o, at_found t p (Exists r j) b)
      (or_right (eqb r' r && eqb d c) _ (and_from (is_below t.role_axioms r r' && is_transitive t.role_axioms r') (eqb c c)
      (and_from (is_below t.role_axioms r r') (is_transitive t.role_axioms r') (below_true t.role_axioms r r' under)
      (transitive_true t.role_axioms r' chains))
      (eq-eqb c c refl))))))
  line_true n p q s i c a l (of_all m) = concluded 1 0 c _ _ (omega arith) a l
      (or_left (eqb (second_of (concept_at t p)) c || among t.axioms c) _
      (or_right (eqb (second_of (concept_at t p)) c) (among t.axioms c) (among_true t.axioms c m)))
