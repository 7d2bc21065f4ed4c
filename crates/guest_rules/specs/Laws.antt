-- The rules beside the house's are lawful. That is shown here and not in proofs/, with no tactic:
-- the source of a rule cites its law, and of its own crate it can cite specs/ alone.
use Rattle.std.proofs.Common.{◌≡◌, ℕ, ◌<◌, ◌≤◌, Bool, true, cond, eqb, ltb, refl, subst, ⊎_elim}
use Rattle.std.proofs.lemmas.Bool.{and_parts, eqb-true, ltb-true, leb-true}
use Rattle.logic.specs.declared.concept.Concept.TheVariants.{Or, Exists}
use Rattle.logic.specs.Interpretations.{Interpretation}
use Rattle.logic.specs.Meaning.{LiesIn}
use Rattle.logic.specs.Theories.{Theory, concept_at, Inhabits}
use Rattle.logic.proofs.Meanings.{at_means}
use Rattle.calculus.specs.declared.rule.Principals.{Principals}
use Rattle.calculus.specs.Premises.{p_alone}
use Rattle.calculus.specs.Schemas.{Lawful}
use Rattle.schemas.specs.Tests.{tagged, first_of, second_of}
use Rattle.schemas.specs.House.{schema}
use Rattle.schemas.proofs.Entries.{tagged_at}
use Rattle.schemas.proofs.Agreement.{concluded}
use Rattle.guest_rules.specs.Guests.{asked, asks_for_cases, neighbour_cases, forgetting}

-- A rule made of tests is lawful if, where it applies, an element of the label gives one that has
-- all that some conclusion lists.
module _ (n cites : ℕ) (applies : Theory → Principals → (ℕ → Bool) → Bool)
    (lists : Theory → Principals → (ℕ → Bool) → ℕ → ℕ → Bool) where
  lawful : cites ≤ 2
      → ((t : Theory) (on : Principals) (X : ℕ → Bool) (I : Interpretation) → applies t on X ≡ true
      → Inhabits I t X → (i : ℕ) × (i < cites) × Inhabits I t (lists t on X i))
      → Lawful (schema n cites applies lists)
  lawful few goes = record {
    few = few;
    concluding = λ t on X i c h.
        let (l, k, stands, _) = concluded n cites applies lists t on X i c h in
        record { step_applies = k; has_conclusion = l; stands = stands };
    sound = λ t on X I keeps meets h l.
        let (i, b, m) = goes t on X I h l in (
          i,
          b,
          record {
            element = m.element;
            inside = m.inside;
            in_all = λ c k. m.in_all c (concluded n cites applies lists t on X i c k).3;
          },
        );
  }

-- a neighbour that lies in "D or E" lies in one of them
pub neighbour_cases_lawful : Lawful neighbour_cases
neighbour_cases_lawful = lawful 11 2 _ _ (leb-true 2 2 refl) goes
  where
    goes : (t : Theory) (on : Principals) (X : ℕ → Bool) (I : Interpretation)
        → asks_for_cases t on X ≡ true → Inhabits I t X
        → (i : ℕ) × (i < 2)
        × Inhabits I t (λ c.
        eqb (cond (eqb i 0) (first_of (asked t on)) (second_of (asked t on))) c)
    goes t on X I h l =
        let k = concept_at t on.p in
        let j = asked t on in
        let (i, r) = and_parts (X on.p) _ h in
        let (some, r') = and_parts (tagged 7 k) _ r in
        let (or, _) = and_parts (tagged 5 j) (p_alone on) r' in
        let (y, ly, _, inside) = at_means I t.concepts on.p l.element
        (Exists (first_of k) (second_of k)) (tagged_at t on.p 7 some) (l.in_all on.p i) in
        let one : (d : ℕ) → LiesIn I t.concepts d y → Inhabits I t (λ c. eqb d c) = λ d u.
        record {
          element = y;
          inside = ly;
          in_all = λ c e. subst (λ (b : ℕ). LiesIn I t.concepts b y) (eqb-true d c e) u;
        } in
        ⊎_elim
        (λ u. (0, ltb-true 0 2 refl, one (first_of j) u))
        (λ u. (1, ltb-true 1 2 refl, one (second_of j) u))
        (at_means I t.concepts (second_of k) y (Or (first_of j) (second_of j))
        (tagged_at t (second_of k) 5 or) inside)

-- the element itself has what is left of the label
pub forgetting_lawful : (n least : ℕ) → Lawful (forgetting n least)
forgetting_lawful n least = lawful n 1 _ _ (leb-true 1 2 refl) (λ t on X I h l. (
  0,
  ltb-true 0 1 refl,
  record {
    element = l.element;
    inside = l.inside;
    in_all = λ c k. l.in_all c (and_parts (ltb c least) (X c) k).1;
  },
))
