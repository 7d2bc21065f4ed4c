-- What the tests of a rule say, the table says.
use Rattle.std.proofs.Common.{◌≡◌, ℕ, zero, suc, ◌-◌, ◌<◌, ◌≤◌, Bool, true, false, cond, ◌&&◌, ◌||◌, eqb, ◌⊎◌, [], ◌∷◌, length, get_or, sym, refl, subst, inl, inr, ⊎_elim, arith}
use Rattle.std.proofs.lemmas.Bool.{and_parts, or_cases, eqb-true}
use Rattle.std.proofs.lemmas.Float.{T_from_true}
use Rattle.bits.specs.Among.{among}
use Rattle.bits.specs.Below.{some_below}
use Rattle.bits.proofs.Tests.{never, T_true}
use Rattle.bits.proofs.SomeBelow.{some_there}
use Rattle.logic.specs.declared.concept.Concept.TheVariants.{Only, Exists}
use Rattle.logic.specs.Concepts.{At}
use Rattle.logic.specs.Roles.{inverse}
use Rattle.logic.specs.Theories.{Theory, concept_at, are_mates}
use Rattle.logic.proofs.Pairings.{found_some}
use Rattle.closure.specs.Decide.{is_below, is_transitive}
use Rattle.closure.proofs.Decided.{true_below, true_transitive}
use Rattle.vocabulary.proofs.AxiomRows.{true_among}
use Rattle.calculus.specs.declared.rule.Principals.{Principals}
use Rattle.calculus.specs.Premises.{p_alone}
use Rattle.schemas.specs.Table.{Applies, bottom, clash, conjunction, disjunction, narrower, general, cut, inverse_cut, transitive_cut, neighbour, conclusions, Lists, kept, first_part, second_part, first_case, second_case, the_narrower, the_general, cut_p, cut_q, inverse_p, inverse_q, inverse_s, transitive_p, transitive_q, transitive_s, asked, passed, carried, of_all}
use Rattle.schemas.specs.Tests.{tagged, first_of, second_of}
use Rattle.schemas.specs.House.{p_or_q_s, passes, carries, gives, bottom as bottom-rule, clash as clash-rule, conjunction as conjunction-rule, disjunction as disjunction-rule, narrower as narrower-rule, general as general-rule, cut as cut-rule, inverse_cut as inverse-cut-rule, transitive_cut as transitive-cut-rule, neighbour as neighbour-rule}
use Rattle.schemas.proofs.Entries.{tagged_at}

among_one : (a c : ℕ) → among (a ∷ []) c ≡ true → a ≡ c
among_one a c h = ⊎_elim (eqb-true a c) never (or_cases (eqb a c) false h)

among_two : (a b c : ℕ) → among (a ∷ b ∷ []) c ≡ true → (a ≡ c) ⊎ (b ≡ c)
among_two a b c h = ⊎_elim (λ e. inl (eqb-true a c e)) (λ e. inr (among_one b c e)) (or_cases (eqb a c) (among (b ∷ []) c) h)

module _ (t : Theory) (on : Principals) (X : ℕ → Bool) where
  abbrev Takes : ℕ → Type 0
  Takes n = Applies t X n on.p on.q on.s

  abbrev Has : ℕ → ℕ → ℕ → Type 0
  Has n i c = Lists t X n on.p on.q on.s i c

  -- principals that are 0
  no_s : (n : ℕ) → eqb on.s 0 ≡ true → Applies t X n on.p on.q 0 → Takes n
  no_s n h a = subst (λ (k : ℕ). Applies t X n on.p on.q k) (sym (eqb-true on.s 0 h)) a

  no_q_s : (n : ℕ) → p_alone on ≡ true → Applies t X n on.p 0 0 → Takes n
  no_q_s n h a =
      let z = and_parts (eqb on.q 0) (eqb on.s 0) h in
      no_s n z.1 (subst (λ (k : ℕ). Applies t X n on.p k 0) (sym (eqb-true on.q 0 z.0)) a)

  -- p is in the label and has the tag t
  one_tagged : (n m : ℕ) → (X on.p && (tagged m (concept_at t on.p) && p_alone on)) ≡ true
      → (X on.p ≡ true → tagged m (concept_at t on.p) ≡ true → Applies t X n on.p 0 0) → Takes n
  one_tagged n m h f =
      let (i, rest) = and_parts (X on.p) _ h in
      let (k, z) = and_parts (tagged m (concept_at t on.p)) (p_alone on) rest in
      no_q_s n z (f i k)

  -- when a step applies

  pub takes_1 : bottom-rule.applies t on X ≡ true → Takes 1
  takes_1 h = one_tagged 1 1 h (λ i k. bottom i (tagged_at t on.p 1 k))

  pub takes_2 : clash-rule.applies t on X ≡ true → Takes 2
  takes_2 h =
      let (i, r) = and_parts (X on.p) _ h in
      let (j, r') = and_parts (X on.q) _ r in
      let (m, z) = and_parts (are_mates t.mates on.p on.q) (eqb on.s 0) r' in
      no_s 2 z (clash i j (found_some (t.mates on.p) on.q m))

  pub takes_3 : conjunction-rule.applies t on X ≡ true → Takes 3
  takes_3 h = one_tagged 3 4 h (λ i k. conjunction i (tagged_at t on.p 4 k))

  pub takes_4 : disjunction-rule.applies t on X ≡ true → Takes 4
  takes_4 h = one_tagged 4 5 h (λ i k. disjunction i (tagged_at t on.p 5 k))

  pub takes_5 : narrower-rule.applies t on X ≡ true → Takes 5
  takes_5 h =
      let k = concept_at t on.p in
      let j = concept_at t on.q in
      let (i, r) = and_parts (X on.p) _ h in
      let (p_is, r1) = and_parts (tagged 6 k) _ r in
      let (q-is, r2) = and_parts (tagged 6 j) _ r1 in
      let (same, r3) = and_parts (eqb (second_of k) (second_of j)) _ r2 in
      let (under, z) = and_parts (is_below t.role_axioms (first_of j) (first_of k)) (eqb on.s 0) r3 in
      let e = eqb-true (second_of k) (second_of j) same in
      no_s 5 z (narrower i (tagged_at t on.p 6 p_is)
      (subst (λ (c : ℕ). At t.concepts on.q (Only (first_of j) c)) (sym e) (tagged_at t on.q 6 q-is))
      (true_below t.role_axioms (first_of j) (first_of k) under))

  pub takes_6 : general-rule.applies t on X ≡ true → Takes 6
  takes_6 h = let (a, z) = and_parts (among t.axioms on.p) (p_alone on) h in no_q_s 6 z (general (true_among t.axioms on.p a))

  pub takes_7 : cut-rule.applies t on X ≡ true → Takes 7
  takes_7 h =
      let (m, z) = and_parts (are_mates t.mates on.p on.q) (eqb on.s 0) h in
      no_s 7 z (cut (found_some (t.mates on.p) on.q m))

  pub takes_8 : inverse-cut-rule.applies t on X ≡ true → Takes 8
  takes_8 h =
      let k = concept_at t on.s in
      let d = second_of k in
      let j = concept_at t d in
      let (m, r) = and_parts (are_mates t.mates on.p on.q) _ h in
      let (s-is, r1) = and_parts (tagged 6 k) _ r in
      let (d-is, r2) = and_parts (tagged 7 j) _ r1 in
      let (back, same) = and_parts (eqb (first_of j) (inverse (first_of k))) (eqb (second_of j) on.q) r2 in
      inverse_cut (found_some (t.mates on.p) on.q m) (tagged_at t on.s 6 s-is)
      (subst (λ (r : ℕ). At t.concepts d (Exists r on.q)) (eqb-true (first_of j) (inverse (first_of k)) back)
      (subst (λ (c : ℕ). At t.concepts d (Exists (first_of j) c)) (eqb-true (second_of j) on.q same) (tagged_at t d 7 d-is)))

  pub takes_9 : transitive-cut-rule.applies t on X ≡ true → Takes 9
  takes_9 h =
      let k = concept_at t on.p in
      let j = concept_at t on.s in
      let (m, r) = and_parts (are_mates t.mates on.p on.q) _ h in
      let (p_is, r1) = and_parts (tagged 6 k) _ r in
      let (chains, r2) = and_parts (is_transitive t.role_axioms (first_of k)) _ r1 in
      let (s-is, r3) = and_parts (tagged 6 j) _ r2 in
      let (back, same) = and_parts (eqb (first_of j) (inverse (first_of k))) (eqb (second_of j) on.q) r3 in
      transitive_cut (found_some (t.mates on.p) on.q m) (tagged_at t on.p 6 p_is)
      (true_transitive t.role_axioms (first_of k) chains)
      (subst (λ (r : ℕ). At t.concepts on.s (Only r on.q)) (eqb-true (first_of j) (inverse (first_of k)) back)
      (subst (λ (c : ℕ). At t.concepts on.s (Only (first_of j) c)) (eqb-true (second_of j) on.q same) (tagged_at t on.s 6 s-is)))

  pub takes_10 : neighbour-rule.applies t on X ≡ true → Takes 10
  takes_10 h = one_tagged 10 7 h (λ i k. neighbour i (tagged_at t on.p 7 k))

  -- what is in a conclusion

  -- the concept p of a step by one of the rules 3, 4 and 10
  p_is : (m : ℕ) → (X on.p && (tagged m (concept_at t on.p) && p_alone on)) ≡ true → tagged m (concept_at t on.p) ≡ true
  p_is m h = (and_parts (tagged m (concept_at t on.p)) (p_alone on) (and_parts (X on.p) _ h).1).0

  -- X is kept, and what is added is in the table
  keeping : (n i c : ℕ) (added : Bool) → 3 ≤ n → n ≤ 9 → i < get_or conclusions (n - 1) 0 → (added ≡ true → Has n i c)
      → (X c || added) ≡ true → Has n i c
  keeping n i c added l u b f h = ⊎_elim (λ k. kept l u b k) f (or_cases (X c) added h)

  -- one concept is added
  adds_one : (n i a c : ℕ) → 3 ≤ n → n ≤ 9 → i < get_or conclusions (n - 1) 0 → Has n i a
      → (X c || among (a ∷ []) c) ≡ true → Has n i c
  adds_one n i a c l u b one = keeping n i c _ l u b (λ k. subst (λ (d : ℕ). Has n i d) (among_one a c k) one)

  -- two are
  adds_two : (n i a b c : ℕ) → 3 ≤ n → n ≤ 9 → i < get_or conclusions (n - 1) 0 → Has n i a → Has n i b
      → (X c || among (a ∷ b ∷ []) c) ≡ true → Has n i c
  adds_two n i a b c l u m one two = keeping n i c _ l u m
      (λ k. ⊎_elim (λ e. subst (λ (d : ℕ). Has n i d) e one) (λ e. subst (λ (d : ℕ). Has n i d) e two) (among_two a b c k))

  pub has_3 : conjunction-rule.applies t on X ≡ true → (i c : ℕ) → i < 1
      → (X c || among (first_of (concept_at t on.p) ∷ second_of (concept_at t on.p) ∷ []) c) ≡ true → Has 3 i c
  has_3 h zero c l =
      let a = tagged_at t on.p 4 (p_is 4 h) in
      adds_two 3 0 _ _ c (omega arith) (omega arith) (omega arith) (first_part a) (second_part a)
  has_3 h (suc i) c l = absurd (omega arith)

  pub has_4 : disjunction-rule.applies t on X ≡ true → (i c : ℕ) → i < 2
      → (X c || among (cond (eqb i 0) (first_of (concept_at t on.p)) (second_of (concept_at t on.p)) ∷ []) c) ≡ true → Has 4 i c
  has_4 h zero c l =
      adds_one 4 0 _ c (omega arith) (omega arith) (omega arith) (first_case (tagged_at t on.p 5 (p_is 5 h)))
  has_4 h (suc zero) c l =
      adds_one 4 1 _ c (omega arith) (omega arith) (omega arith) (second_case (tagged_at t on.p 5 (p_is 5 h)))
  has_4 h (suc (suc i)) c l = absurd (omega arith)

  pub has_5 : (i c : ℕ) → i < 1 → (X c || among (on.q ∷ []) c) ≡ true → Has 5 i c
  has_5 zero c l = adds_one 5 0 on.q c (omega arith) (omega arith) (omega arith) the_narrower
  has_5 (suc i) c l = absurd (omega arith)

  pub has_6 : (i c : ℕ) → i < 1 → (X c || among (on.p ∷ []) c) ≡ true → Has 6 i c
  has_6 zero c l = adds_one 6 0 on.p c (omega arith) (omega arith) (omega arith) the_general
  has_6 (suc i) c l = absurd (omega arith)

  pub has_7 : (i c : ℕ) → i < 2 → (X c || among (cond (eqb i 0) on.p on.q ∷ []) c) ≡ true → Has 7 i c
  has_7 zero c l = adds_one 7 0 on.p c (omega arith) (omega arith) (omega arith) cut_p
  has_7 (suc zero) c l = adds_one 7 1 on.q c (omega arith) (omega arith) (omega arith) cut_q
  has_7 (suc (suc i)) c l = absurd (omega arith)

  -- rules 8 and 9
  p_or_q_s_in : (n i c : ℕ) → 3 ≤ n → n ≤ 9 → get_or conclusions (n - 1) 0 ≡ 2 → i < 2
      → Has n 0 on.p → Has n 1 on.q → Has n 1 on.s → (X c || among (p_or_q_s on i) c) ≡ true → Has n i c
  p_or_q_s_in n zero c l u two b has_p has-q has-s = adds_one n 0 on.p c l u (omega arith) has_p
  p_or_q_s_in n (suc zero) c l u two b has_p has-q has-s = adds_two n 1 on.q on.s c l u (omega arith) has-q has-s
  p_or_q_s_in n (suc (suc i)) c l u two b has_p has-q has-s = absurd (omega arith)

  pub has_8 : (i c : ℕ) → i < 2 → (X c || among (p_or_q_s on i) c) ≡ true → Has 8 i c
  has_8 i c b = p_or_q_s_in 8 i c (omega arith) (omega arith) refl b inverse_p inverse_q inverse_s

  pub has_9 : (i c : ℕ) → i < 2 → (X c || among (p_or_q_s on i) c) ≡ true → Has 9 i c
  has_9 i c b = p_or_q_s_in 9 i c (omega arith) (omega arith) refl b transitive_p transitive_q transitive_s

  -- what a concept of the label gives to a neighbour
  gives_10 : neighbour-rule.applies t on X ≡ true → (d c : ℕ) → X d ≡ true
      → gives t (first_of (concept_at t on.p)) d c ≡ true → Has 10 0 c
  gives_10 h d c i g =
      let k = concept_at t d in
      let r = first_of (concept_at t on.p) in
      let p_at = tagged_at t on.p 7 (p_is 7 h) in
      ⊎_elim
      (λ w. let (only, same) = and_parts (tagged 6 k) _ w in
      let (a, b) = and_parts (eqb (first_of k) r) (eqb (second_of k) c) same in
      passed p_at i (subst (λ (s : ℕ). At t.concepts d (Only s c)) (eqb-true (first_of k) r a)
      (subst (λ (e : ℕ). At t.concepts d (Only (first_of k) e)) (eqb-true (second_of k) c b) (tagged_at t d 6 only))))
      (λ w. let (f, e) = and_parts (carries t r d) (eqb d c) w in
      let (only, both) = and_parts (tagged 6 k) _ f in
      let (under, chains) = and_parts (is_below t.role_axioms r (first_of k)) (is_transitive t.role_axioms (first_of k)) both in
      subst (λ (j : ℕ). Has 10 0 j) (eqb-true d c e)
      (carried p_at i (tagged_at t d 6 only) (true_below t.role_axioms r (first_of k) under)
      (true_transitive t.role_axioms (first_of k) chains)))
      (or_cases (passes t r d c) (carries t r d && eqb d c) g)

  pub has_10 : neighbour-rule.applies t on X ≡ true → (i c : ℕ) → i < 1
      → ((eqb (second_of (concept_at t on.p)) c || among t.axioms c)
      || some_below (length t.concepts) (λ d. X d && gives t (first_of (concept_at t on.p)) d c)) ≡ true → Has 10 i c
  has_10 h zero c l r =
      let k = concept_at t on.p in
      ⊎_elim
      (λ w. ⊎_elim
      (λ e. subst (λ (d : ℕ). Has 10 0 d) (eqb-true (second_of k) c e) (asked (tagged_at t on.p 7 (p_is 7 h))))
      (λ a. of_all (true_among t.axioms c a))
      (or_cases (eqb (second_of k) c) (among t.axioms c) w))
      (λ w. let (d, _, g) = some_there (length t.concepts) (λ d. X d && gives t (first_of k) d c) (T_from_true _ w) in
      let (i, g') = and_parts (X d) (gives t (first_of k) d c) (T_true _ g) in
      gives_10 h d c i g')
      (or_cases (eqb (second_of k) c || among t.axioms c) _ r)
  has_10 h (suc i) c l r = absurd (omega arith)
