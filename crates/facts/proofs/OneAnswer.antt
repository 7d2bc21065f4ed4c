-- A call has one answer.
use Rattle.std.proofs.Common.{◌≡◌, ℕ, List, length, Some, None, Ok, Err, Option, Result, sym, ap, ◌∙◌, inl, inr, arith}
use Rattle.refusals.specs.declared.Refusal.{Refusal}
use Rattle.refusals.specs.Table.{returned}
use Rattle.refusals.proofs.Numbers.{returned_alike}
use Rattle.vocabulary.specs.Vocabularies.{theory}
use Rattle.models.specs.declared.Model.{Model}
use Rattle.claims.specs.Claiming.{filed, claim_at}
use Rattle.docket.specs.declared.Docket.{Docket}
use Rattle.docket.specs.Dockets.{count, lines}
use Rattle.docket.specs.Calls.{Call, inclusion, transitivity, concept, pair, «axiom», seal, line, claim, close_empty, close_inhabited, refusal, JudgedFor, Refuses, Acts}
use Rattle.facts.specs.Answers.{the_same, the_same_model, CallsHaveOneAnswer}
use Rattle.facts.proofs.OneJudgement.{one_judged}

-- an answer by checks alone: the number n, or the first refusal o
abbrev Says : Option (ℕ × ℕ) → ℕ → Result ℕ Refusal → Type 0
Says o n (Ok i) = (o ≡ None) × (i ≡ n)
Says o n (Err x) = o ≡ Some (returned x)

-- what is returned by the same check is the same refusal
same_refusal : (o : Option (ℕ × ℕ)) (x y : Refusal) → o ≡ Some (returned x) → o ≡ Some (returned y) → x ≡ y
same_refusal o x y p q = let e : returned x ≡ returned y = cc in returned_alike x y e

one_said : (o : Option (ℕ × ℕ)) (n : ℕ) (a b : Result ℕ Refusal) → Says o n a → Says o n b → a ≡ b
one_said o n (Ok i) (Ok j) p q = ap (λ k. Ok k) (p.1 ∙ sym q.1)
one_said o n (Ok i) (Err x) p q = let z : ◌≡◌ {A = ℕ} 0 1 = cc (p.0, q) in absurd (omega arith)
one_said o n (Err x) (Ok j) p q = let z : ◌≡◌ {A = ℕ} 0 1 = cc (p, q.0) in absurd (omega arith)
one_said o n (Err x) (Err y) p q = ap (λ r. Err r) (same_refusal o x y p q)

-- the number that a call gives
abbrev number : Call → Docket → ℕ
number (inclusion r s) d = length (theory d.vocabulary).role_axioms
number (transitivity r) d = length (theory d.vocabulary).role_axioms
number (concept t a b) d = count d
number (pair a b) d = 0
number («axiom» c) d = length (theory d.vocabulary).axioms
number seal d = 0
number (line k f) d = length (lines d)
number (claim bytes) d = length (filed d.claims)
number (close_empty c n) d = 0
number (close_inhabited c m old new) d = 0

-- what is answered by checks alone
abbrev ByChecks : Call → Type 0
ByChecks (close_inhabited c m old new) = ⊥
ByChecks c = Unit {0}

module _ (d : Docket) where
  says : (c : Call) → ByChecks c → (a : Result ℕ Refusal) (e : Docket) → Acts c d a e → Says (refusal c d) (number c d) a
  says (inclusion r s) u (Ok i) e h = (h.0, h.1.0.0.0)
  says (transitivity r) u (Ok i) e h = (h.0, h.1.0.0.0)
  says (concept t a b) u (Ok i) e h = (h.0, h.1.2.0.0)
  says (pair a b) u (Ok i) e h = (h.0, h.1.1)
  says («axiom» c) u (Ok i) e h = (h.0, h.1.0.0.0)
  says seal u (Ok i) e h = (h.0, h.1.0)
  says (line k f) u (Ok i) e h = (h.0, h.1.1.0)
  says (claim bytes) u (Ok i) e h = (h.0, h.1.0.0)
  says (close_empty c n) u (Ok i) e h = (h.0, h.1.1)
  says (close_inhabited c m old new) u a e h = absurd u
  says c u (Err x) e h = h.0

  by_checks : (c : Call) → ByChecks c → (a b : Result ℕ Refusal) (e f : Docket) → Acts c d a e → Acts c d b f → a ≡ b
  by_checks c u a b e f p q = one_said (refusal c d) (number c d) a b (says c u a e p) (says c u b f q)

  -- a model that no check speaks against is judged in one way
  module _ (k : ℕ) (m : Model) (old new other : List ℕ) where
    judged_alike : (r s : Result (Unit {0}) Refusal) → JudgedFor d k m old r new → JudgedFor d k m old s other → r ≡ s
    judged_alike r s p q =
        let t = theory d.vocabulary in
        one_judged t.role_axioms t.concepts t.axioms (claim_at d.claims k).label m old new other r s p q

    one_refusal : (x y : Refusal) → Refuses (close_inhabited k m old new) d x → Refuses (close_inhabited k m old other) d y
        → x ≡ y
    one_refusal x y (inl p) (inl q) = same_refusal _ x y p.0 q.0
    one_refusal x y (inl p) (inr q) = let z : ◌≡◌ {A = ℕ} 0 1 = cc (p.0, q.0) in absurd (omega arith)
    one_refusal x y (inr p) (inl q) = let z : ◌≡◌ {A = ℕ} 0 1 = cc (p.0, q.0) in absurd (omega arith)
    one_refusal x y (inr p) (inr q) = let e = judged_alike (Err x) (Err y) p.1 q.1 in cc

  -- it is taken or refused, and not both
  not_both : (k : ℕ) (m : Model) (old new other : List ℕ) (x : Refusal) → refusal (close_inhabited k m old new) d ≡ None
      → JudgedFor d k m old (Ok tt) new → Refuses (close_inhabited k m old other) d x → ⊥
  not_both k m old new other x h p (inl q) = let z : ◌≡◌ {A = ℕ} 0 1 = cc (h, q.0) in omega arith
  not_both k m old new other x h p (inr q) =
      let e = judged_alike k m old new other (Ok tt) (Err x) p q.1 in
      let z : ◌≡◌ {A = ℕ} 0 1 = cc in
      omega arith

  by_model : (k : ℕ) (m : Model) (old new other : List ℕ) (a b : Result ℕ Refusal) (e f : Docket)
      → Acts (close_inhabited k m old new) d a e → Acts (close_inhabited k m old other) d b f → a ≡ b
  by_model k m old new other (Ok i) (Ok j) e f p q = ap (λ n. Ok n) (p.1.1 ∙ sym q.1.1)
  by_model k m old new other (Ok i) (Err x) e f p q = absurd (not_both k m old new other x p.0.0 p.0.1 q.0)
  by_model k m old new other (Err x) (Ok j) e f p q = absurd (not_both k m old other new x q.0.0 q.0.1 p.0)
  by_model k m old new other (Err x) (Err y) e f p q = ap (λ n. Err n) (one_refusal k m old new other x y p.0 q.0)

  one_answer : (c : Call) (a b : Result ℕ Refusal) (e f : Docket) → Acts c d a e → Acts c d b f → a ≡ b
  one_answer (close_inhabited k m old new) a b e f p q = by_model k m old new new a b e f p q
  one_answer c a b e f p q = by_checks c tt a b e f p q

pub calls_have_one_answer : CallsHaveOneAnswer
calls_have_one_answer d c c' the_same a b e f p q = one_answer d c a b e f p q
calls_have_one_answer d c c' (the_same_model {c = k} {m = m} {old = old} {new = new} {other = other}) a b e f p q =
    by_model d k m old new other a b e f p q
