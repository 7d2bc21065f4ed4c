-- A concept that was read and put into the vocabulary is filed.
use Rattle.std.proofs.Common.{◌≡◌, ℕ, ◌∷◌, [], None, Ok, Option, nat_le, refl, ap, subst}
use Rattle.std.proofs.lemmas.Bool.{lt-leb}
use Rattle.refusals.specs.Checks.{when, first}
use Rattle.refusals.proofs.Clearing.{none_when, first_behind}
use Rattle.register.specs.Registers.{room}
use Rattle.logic.specs.declared.concept.Concept.{Concept}
use Rattle.vocabulary.specs.declared.Vocabulary.{Vocabulary}
use Rattle.vocabulary.specs.Vocabularies.{ConceptFiled}
use Rattle.docket.specs.declared.Docket.{Docket}
use Rattle.docket.specs.declared.phase.Subject.TheVariants.{Concept as ConceptSubject}
use Rattle.docket.specs.Fields.{concept_checks, Written}
use Rattle.docket.specs.Dockets.{count, entered}
use Rattle.docket.specs.Calls.{concept, Acts}

-- m is the docket once the call has entered it, where n concepts stand; w is its vocabulary after
-- the call
pub concept_done : (d m : Docket) (w : Vocabulary) (n t a b i : ℕ) (k : Concept) → m ≡ entered d ConceptSubject → n ≡ count m
    → first (concept_checks n t a b) ≡ None → Written t a b k → ConceptFiled m.vocabulary w k (Ok i)
    → Acts (concept t a b) d (Ok i) (record m { vocabulary = w })
concept_done d m w n t a b i k is number read written filed =
    let r = room m.vocabulary.concepts in
    let space = none_when (nat_le r (count m)) (5, r) (lt-leb r (count m) filed.0.1) in
    let read : first (concept_checks (count m) t a b) ≡ None = rw (← number) read in
    let clear = first_behind (concept_checks (count m) t a b) (when (nat_le r (count m)) (5, r) ∷ []) None read
    (ap (λ (o : Option (ℕ × ℕ)). first (o ∷ [])) space) in
    subst (λ (x : Docket). Acts (concept t a b) x (Ok i) (record m { vocabulary = w })) is (clear, (k, written, filed, refl))
