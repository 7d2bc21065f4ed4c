-- A rule whose tests say no more than the table is lawful, and so is the house.
use Rattle.std.proofs.Common.{◌≡◌, ℕ, ◌-◌, ◌<◌, ◌≤◌, Bool, true, false, ◌&&◌, ◌||◌, eqb, ltb, length, get_or, sym, refl, subst, arith}
use Rattle.std.proofs.lemmas.Bool.{and_parts, eqb-true, ltb-true}
use Rattle.bits.proofs.Tests.{never}
use Rattle.logic.specs.Theories.{Theory}
use Rattle.calculus.specs.declared.rule.Principals.{Principals}
use Rattle.calculus.specs.Schemas.{Schema, Lawful}
use Rattle.calculus.specs.Calculi.{Calculus, alone, beside}
use Rattle.calculus.specs.Banks.{either_taken}
use Rattle.schemas.specs.Table.{Applies, Concludes, Lists, conclusions}
use Rattle.schemas.specs.House.{schema, bottom, clash, conjunction, disjunction, narrower, general, cut, inverse_cut, transitive_cut, neighbour}
use Rattle.schemas.proofs.Soundness.{step_goes}
use Rattle.schemas.proofs.FromTests.{takes_1, takes_2, takes_3, takes_4, takes_5, takes_6, takes_7, takes_8, takes_9, takes_10, has_3, has_4, has_5, has_6, has_7, has_8, has_9, has_10}

-- the tests of one rule say no more than the table
pub record Agrees (r : Schema) : Type 0 where
  pub one_of_ten : (1 ≤ r.number) × (r.number ≤ 10)
  pub steps : (t : Theory) (on : Principals) (X : ℕ → Bool) → r.applies t on X ≡ true → Applies t X r.number on.p on.q on.s
  pub lines : (t : Theory) (on : Principals) (X : ℕ → Bool) (i c : ℕ) → r.concludes t on X i c ≡ true
      → Concludes t X r.number on.p on.q on.s i c

module _ (n cites : ℕ) (applies : Theory → Principals → (ℕ → Bool) → Bool)
    (lists : Theory → Principals → (ℕ → Bool) → ℕ → ℕ → Bool) where
  -- what it says of a conclusion
  pub concluded : (t : Theory) (on : Principals) (X : ℕ → Bool) (i c : ℕ)
      → (schema n cites applies lists).concludes t on X i c ≡ true
      → (i < cites) × (applies t on X ≡ true) × (c < length t.concepts) × (lists t on X i c ≡ true)
  concluded t on X i c h =
      let (a, b) = and_parts (ltb i cites && applies t on X) _ h in
      let (l, k) = and_parts (ltb i cites) (applies t on X) a in
      let (stands, r) = and_parts (ltb c (length t.concepts)) (lists t on X i c) b in
      (ltb-true i cites l, k, ltb-true c (length t.concepts) stands, r)

  agrees : 1 ≤ n → n ≤ 10
      → ((t : Theory) (on : Principals) (X : ℕ → Bool) → applies t on X ≡ true → Applies t X n on.p on.q on.s)
      → ((t : Theory) (on : Principals) (X : ℕ → Bool) → applies t on X ≡ true → (i c : ℕ) → i < cites → lists t on X i c ≡ true
      → Lists t X n on.p on.q on.s i c)
      → Agrees (schema n cites applies lists)
  agrees lo hi takes has-it = record {
    one_of_ten = (lo, hi);
    steps = takes;
    lines = λ t on X i c h. let (l, a, stands, r) = concluded t on X i c h in
        record { step_applies = takes t on X a; stands = stands; lists = has-it t on X a i c l r };
  }

  -- and so it is lawful, since the table is sound
  lawful : cites ≤ 2 → get_or conclusions (n - 1) 0 ≡ cites → Agrees (schema n cites applies lists)
      → Lawful (schema n cites applies lists)
  lawful few count a = record {
    few = few;
    concluding = λ t on X i c h. let (l, k, stands, _) = concluded t on X i c h in
        record { step_applies = k; has_conclusion = l; stands = stands };
    sound = λ t on X I keeps meets h l.
        let (i, b, found) = step_goes t I keeps meets X l.element l.inside l.in_all n on.p on.q on.s (a.steps t on X h) in
        (i, omega arith, record { element = found.0; inside = found.1; in_all = λ c k. found.2 c (a.lines t on X i c k).lists });
  }

-- the ten rules

pub bottom_agrees : Agrees bottom
bottom_agrees = agrees 1 0 _ _ (omega arith) (omega arith) takes_1 (λ t on X h i c l r. never r)

pub clash_agrees : Agrees clash
clash_agrees = agrees 2 0 _ _ (omega arith) (omega arith) takes_2 (λ t on X h i c l r. never r)

pub conjunction_agrees : Agrees conjunction
conjunction_agrees = agrees 3 1 _ _ (omega arith) (omega arith) takes_3 has_3

pub disjunction_agrees : Agrees disjunction
disjunction_agrees = agrees 4 2 _ _ (omega arith) (omega arith) takes_4 has_4

pub narrower_agrees : Agrees narrower
narrower_agrees = agrees 5 1 _ _ (omega arith) (omega arith) takes_5 (λ t on X h. has_5 t on X)

pub general_agrees : Agrees general
general_agrees = agrees 6 1 _ _ (omega arith) (omega arith) takes_6 (λ t on X h. has_6 t on X)

pub cut_agrees : Agrees cut
cut_agrees = agrees 7 2 _ _ (omega arith) (omega arith) takes_7 (λ t on X h. has_7 t on X)

pub inverse_cut_agrees : Agrees inverse_cut
inverse_cut_agrees = agrees 8 2 _ _ (omega arith) (omega arith) takes_8 (λ t on X h. has_8 t on X)

pub transitive_cut_agrees : Agrees transitive_cut
transitive_cut_agrees = agrees 9 2 _ _ (omega arith) (omega arith) takes_9 (λ t on X h. has_9 t on X)

pub neighbour_agrees : Agrees neighbour
neighbour_agrees = agrees 10 1 _ _ (omega arith) (omega arith) takes_10 has_10

pub bottom_lawful : Lawful bottom
bottom_lawful = lawful 1 0 _ _ (omega arith) refl bottom_agrees

pub clash_lawful : Lawful clash
clash_lawful = lawful 2 0 _ _ (omega arith) refl clash_agrees

pub conjunction_lawful : Lawful conjunction
conjunction_lawful = lawful 3 1 _ _ (omega arith) refl conjunction_agrees

pub disjunction_lawful : Lawful disjunction
disjunction_lawful = lawful 4 2 _ _ (omega arith) refl disjunction_agrees

pub narrower_lawful : Lawful narrower
narrower_lawful = lawful 5 1 _ _ (omega arith) refl narrower_agrees

pub general_lawful : Lawful general
general_lawful = lawful 6 1 _ _ (omega arith) refl general_agrees

pub cut_lawful : Lawful cut
cut_lawful = lawful 7 2 _ _ (omega arith) refl cut_agrees

pub inverse_cut_lawful : Lawful inverse_cut
inverse_cut_lawful = lawful 8 2 _ _ (omega arith) refl inverse_cut_agrees

pub transitive_cut_lawful : Lawful transitive_cut
transitive_cut_lawful = lawful 9 2 _ _ (omega arith) refl transitive_cut_agrees

pub neighbour_lawful : Lawful neighbour
neighbour_lawful = lawful 10 1 _ _ (omega arith) refl neighbour_agrees

-- banks

pub record AllAgree (k : Calculus) : Type 0 where
  pub all_of_ten : (n : ℕ) → k.has n ≡ true → (1 ≤ n) × (n ≤ 10)
  pub all_steps : (t : Theory) (n : ℕ) (on : Principals) (X : ℕ → Bool) → k.applies n t on X ≡ true → Applies t X n on.p on.q on.s
  pub all_lines : (t : Theory) (n : ℕ) (on : Principals) (X : ℕ → Bool) (i c : ℕ) → k.concludes n t on X i c ≡ true
      → Concludes t X n on.p on.q on.s i c

pub alone_agrees : (r : Schema) → Agrees r → AllAgree (alone r)
alone_agrees r a = record {
  all_of_ten = λ n h. subst (λ (m : ℕ). (1 ≤ m) × (m ≤ 10)) (sym (eqb-true n r.number h)) a.one_of_ten;
  all_steps = λ t n on X h. let (e, b) = and_parts (eqb n r.number) (r.applies t on X) h in
      subst (λ (m : ℕ). Applies t X m on.p on.q on.s) (sym (eqb-true n r.number e)) (a.steps t on X b);
  all_lines = λ t n on X i c h. let (e, b) = and_parts (eqb n r.number) (r.concludes t on X i c) h in
      subst (λ (m : ℕ). Concludes t X m on.p on.q on.s i c) (sym (eqb-true n r.number e)) (a.lines t on X i c b);
}

-- what both ways give, the one that is chosen gives
either_has : (a b : Bool) (P : Type 0) → (a ≡ true → P) → (b ≡ true → P) → (a || b) ≡ true → P
either_has true b P f g h = f refl
either_has false b P f g h = g h

pub beside_agrees : (a b : Calculus) → AllAgree a → AllAgree b → AllAgree (beside a b)
beside_agrees a b f g = record {
  all_of_ten = λ n. either_has (a.has n) (b.has n) _ (f.all_of_ten n) (g.all_of_ten n);
  all_steps = λ t n on X. either_taken (a.has n) (a.applies n t on X) (b.applies n t on X) _
      (f.all_steps t n on X) (g.all_steps t n on X);
  all_lines = λ t n on X i c. either_taken (a.has n) (a.concludes n t on X i c) (b.concludes n t on X i c) _
      (f.all_lines t n on X i c) (g.all_lines t n on X i c);
}
