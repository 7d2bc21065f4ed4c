-- What filing and pairing make of a vocabulary's theory.
use Rattle.std.proofs.Common.{◌≡◌, ℕ, ◌<◌, true, List, [], ◌∷◌, ◌++◌, Some, Ok, Option, ap, ◌∙◌}
use Rattle.std.proofs.lemmas.Bool.{lt-ltb}
use Rattle.logic.specs.declared.concept.Concept.{Concept}
use Rattle.logic.specs.declared.role.RoleAxiom.{RoleAxiom}
use Rattle.logic.specs.Pairing.{joined}
use Rattle.vocabulary.specs.declared.Vocabulary.{Vocabulary}
use Rattle.vocabulary.specs.Mates.{mate}
use Rattle.vocabulary.specs.Vocabularies.{theory, ConceptFiled, RolesFiled, AxiomFiled, Paired}

pub role_axiom_filed : (v w : Vocabulary) (a : RoleAxiom) (i : ℕ) → RolesFiled v w a (Some i)
    → theory w ≡ record (theory v) { role_axioms = (theory v).role_axioms ++ a ∷ [] }
role_axiom_filed v w a i h =
    ap theory h.1 ∙ ap (λ (xs : List RoleAxiom). record (theory v) { role_axioms = xs }) h.0.2

pub axiom_filed : (v w : Vocabulary) (c i : ℕ) → AxiomFiled v w c (Some i) → theory w ≡ record (theory v) { axioms = (theory v).axioms ++ c ∷ [] }
axiom_filed v w c i h = ap theory h.1 ∙ ap (λ (xs : List ℕ). record (theory v) { axioms = xs }) h.0.2

pub concept_filed : (v w : Vocabulary) (k : Concept) (i : ℕ) → ConceptFiled v w k (Ok i) → theory w ≡ record (theory v) { concepts = (theory v).concepts ++ k ∷ [] }
concept_filed v w k i h = ap theory h.1 ∙ ap (λ (xs : List Concept). record (theory v) { concepts = xs }) h.0.3

-- the mates of all concepts, as one function
all_mates : (m n : ℕ → Option ℕ) → ((x : ℕ) → m x ≡ n x) → m ≡ n
all_mates m n h = λ i x. h x i

pub paired : (v w : Vocabulary) (c d : ℕ) → c < 1024 → d < 1024 → Paired v w c d true → theory w ≡ record (theory v) { mates = joined (theory v).mates c d }
paired v w c d lc ld h =
    let t : (x : ℕ) → mate w.mates x ≡ joined (mate v.mates) c d x = (λ x. rw (lt-ltb c 1024 lc, lt-ltb d 1024 ld) at (h.1.0 x)) in
    ap theory h.2 ∙ ap (λ (m : ℕ → Option ℕ). record (theory v) { mates = m }) (all_mates (mate w.mates) (joined (mate v.mates) c d) t)
