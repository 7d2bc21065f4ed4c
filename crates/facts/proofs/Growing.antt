-- Theories that grow: what was empty stays empty.
use Rattle.std.proofs.Common.{◌≡◌, ℕ, ◌<◌, ◌≤◌, Bool, true, List, [], ◌∷◌, ◌++◌, length, Option, Ok, Err, Result, sym, refl, ap, ◌∙◌, subst, append-nil, arith, length-append}
use mathlib.Core.List.Memᴰ
use mathlib.Core.List.{Memᴰ}
use Rattle.refusals.specs.declared.Refusal.{Refusal}
use Rattle.logic.specs.declared.concept.Concept.{Concept}
use Rattle.logic.specs.declared.role.RoleAxiom.{RoleAxiom}
use Rattle.logic.specs.declared.role.RoleAxiom.TheVariants.{Inclusion, Transitivity}
use Rattle.logic.specs.Interpretations.{Interpretation}
use Rattle.logic.specs.Meaning.{LiesIn}
use Rattle.logic.specs.Theories.{Theory, MeetsAxioms, Inhabits}
use Rattle.logic.specs.Pairing.{Pairable}
use Rattle.logic.specs.Keeping.{Kept}
use Rattle.logic.proofs.Meanings.{shrink}
use Rattle.logic.proofs.Pairings.{pairable_is_decided}
use Rattle.vocabulary.specs.declared.Vocabulary.{Vocabulary}
use Rattle.vocabulary.specs.Vocabularies.{theory, Paired}
use Rattle.vocabulary.proofs.Keeping.{role_axiom_filed, concept_filed, paired, axiom_filed}
use Rattle.docket.specs.declared.Docket.{Docket}
use Rattle.docket.specs.Calls.{Call, inclusion, transitivity, concept, pair, «axiom», seal, line, claim, close_empty, close_inhabited, Acts}
use Rattle.facts.specs.Lines.{Empty}
use Rattle.facts.specs.Proper.{with_pair}

-- the theory of a docket
abbrev pub words : Docket → Theory
words d = theory d.vocabulary

-- all that stood in s stands in t
pub record Grown (s t : Theory) : Type 0 where
  pub more : List Concept
  pub concepts_more : t.concepts ≡ s.concepts ++ more
  pub roles_stay : (a : RoleAxiom) → Memᴰ a s.role_axioms → Memᴰ a t.role_axioms
  pub axioms_stay : (c : ℕ) → Memᴰ c s.axioms → Memᴰ c t.axioms

pub grown_count : (s t : Theory) → Grown s t → length s.concepts ≤ length t.concepts
grown_count s t g = omega (arith, ap length g.concepts_more, length-append s.concepts g.more)

-- other mates alone
grown_mates : (t : Theory) (m : ℕ → Option ℕ) → Grown t (record t { mates = m })
grown_mates t m = record {
  more = [];
  concepts_more = sym (append-nil t.concepts);
  roles_stay = λ a h. h;
  axioms_stay = λ c h. h;
}

grown_same : (d e x : Docket) → e ≡ x → words x ≡ words d → Grown (words d) (words e)
grown_same d e x same k = subst (Grown (words d)) (sym (ap words same ∙ k)) (grown_mates (words d) (words d).mates)

grown_role_axiom : (t : Theory) (a : RoleAxiom) → Grown t (record t { role_axioms = t.role_axioms ++ a ∷ [] })
grown_role_axiom t a = record {
  more = [];
  concepts_more = sym (append-nil t.concepts);
  roles_stay = λ b m. Memᴰ.append_left (a ∷ []) m;
  axioms_stay = λ c m. m;
}

grown_concept : (t : Theory) (k : Concept) → Grown t (record t { concepts = t.concepts ++ k ∷ [] })
grown_concept t k = record { more = k ∷ []; concepts_more = refl; roles_stay = λ a m. m; axioms_stay = λ c m. m }

grown_axiom : (t : Theory) (c : ℕ) → Grown t (record t { axioms = t.axioms ++ c ∷ [] })
grown_axiom t c = record {
  more = [];
  concepts_more = sym (append-nil t.concepts);
  roles_stay = λ a m. m;
  axioms_stay = λ x m. Memᴰ.append_left (c ∷ []) m;
}

-- two concepts that are paired could be, and only the mates are new
pub pair_possible : (v w : Vocabulary) (c d : ℕ) → Paired v w c d true → Pairable (theory v) c d
pair_possible v w c d h = (pairable_is_decided (theory v) c d).0 h.0

pub pair_joined : (v w : Vocabulary) (c d : ℕ) → Kept (theory v) → Paired v w c d true → theory w ≡ with_pair (theory v) c d
pair_joined v w c d kept h =
    let p = pair_possible v w c d h in
    let few = kept.few_concepts in
    let lc : c < 1024 = omega (arith, p.opposed.this_at.0) in
    let ld : d < 1024 = omega (arith, p.opposed.that_at.0) in
    paired v w c d lc ld h

-- every call lets the theory grow, or leaves it as it was
pub acts_grown : (c : Call) (d e : Docket) (a : Result ℕ Refusal) → Kept (words d) → Acts c d a e → Grown (words d) (words e)
acts_grown c d e (Err f) kept h = grown_same d e d h.1 refl
acts_grown (inclusion r s) d e (Ok i) kept h =
    let a = Inclusion r s in
    subst (Grown (words d)) (sym (role_axiom_filed d.vocabulary e.vocabulary a i h.1.0)) (grown_role_axiom (words d) a)
acts_grown (transitivity r) d e (Ok i) kept h =
    let a = Transitivity r in
    subst (Grown (words d)) (sym (role_axiom_filed d.vocabulary e.vocabulary a i h.1.0)) (grown_role_axiom (words d) a)
acts_grown (concept n x y) d e (Ok i) kept h =
    let k = h.1.0 in
    subst (Grown (words d)) (sym (concept_filed d.vocabulary e.vocabulary k i h.1.2)) (grown_concept (words d) k)
acts_grown (pair x y) d e (Ok i) kept h =
    let now = pair_joined d.vocabulary e.vocabulary x y kept h.1.0 in
    subst (Grown (words d)) (sym now) (grown_mates (words d) (with_pair (words d) x y).mates)
acts_grown («axiom» c) d e (Ok i) kept h =
    subst (Grown (words d)) (sym (axiom_filed d.vocabulary e.vocabulary c i h.1.0)) (grown_axiom (words d) c)
acts_grown seal d e (Ok i) kept h = grown_same d e _ h.1.1 refl
acts_grown (line k f) d e (Ok i) kept h = grown_same d e _ h.1.2 refl
acts_grown (claim bytes) d e (Ok i) kept h = grown_same d e _ h.1.1 refl
acts_grown (close_empty c n) d e (Ok i) kept h = grown_same d e _ h.1.2 refl
acts_grown (close_inhabited c m old new) d e (Ok i) kept h = grown_same d e _ h.1.2 refl

-- what holds in the larger theory held in the smaller one
module _ (s t : Theory) (kept : Kept s) (g : Grown s t) (I : Interpretation) where
  lay_in : (c e : ℕ) → c < length s.concepts → LiesIn I t.concepts c e → LiesIn I s.concepts c e
  lay_in c e l h =
      shrink I s.concepts g.more kept.ordered c e l (subst (λ (cs : List Concept). LiesIn I cs c e) g.concepts_more h)

  met_axioms : MeetsAxioms I t → MeetsAxioms I s
  met_axioms m = record {
    meets_roles = λ a h. m.meets_roles a (g.roles_stay a h);
    meets_axioms = λ c h e l. lay_in c e (kept.axioms_stand c h) (m.meets_axioms c (g.axioms_stay c h) e l);
  }

  inhabited : (X : ℕ → Bool) → ((c : ℕ) → X c ≡ true → c < length s.concepts) → Inhabits I t X → Inhabits I s X
  inhabited X stand h = record {
    element = h.element;
    inside = h.inside;
    in_all = λ c x. lay_in c h.element (stand c x) (h.in_all c x);
  }

pub empty_stays : (s t : Theory) (X : ℕ → Bool) → Kept s → Grown s t → ((c : ℕ) → X c ≡ true → c < length s.concepts)
    → Empty s X → Empty t X
empty_stays s t X kept g stand empty I meets h =
    empty I (met_axioms s t kept g I meets) (inhabited s t kept g I X stand h)
