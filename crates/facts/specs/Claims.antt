-- What is promised of claims: of their labels, and of those that are closed.
use Rattle.std.specs.Prelude.{◌≡◌, ℕ, ◌<◌, Bool, true, length}
use Rattle.bits.specs.Bits.{has}
use Rattle.logic.specs.Interpretations.{Interpretation}
use Rattle.logic.specs.Theories.{Theory, MeetsAxioms, Inhabits}
use Rattle.vocabulary.specs.Vocabularies.{concepts, theory}
use Rattle.models.specs.Judging.{LabelStands}
use Rattle.claims.specs.declared.Status.TheVariants.{Empty as IsEmpty, Inhabited}
use Rattle.claims.specs.Claiming.{filed, claim_at}
use Rattle.book.specs.Lines.{label_of}
use Rattle.docket.specs.declared.Docket.{Docket}
use Rattle.docket.specs.Dockets.{lines}
use Rattle.docket.specs.Runs.{Banks, sound, Reached}
use Rattle.facts.specs.Lines.{Empty}

-- a finite interpretation that meets the axioms of both lists and has an element in all of the
-- concepts of X
pub record Witness (t : Theory) (X : ℕ → Bool) : Type 0 where
  pub interpretation : Interpretation
  pub meets : MeetsAxioms interpretation t
  pub inhabits : Inhabits interpretation t X

-- THE LABEL OF A CLAIM IS OF STANDING CONCEPTS, in any docket that is reached, whatever banks were
-- lent
abbrev pub ClaimLabelsStand : Type 0
ClaimLabelsStand = (b : Banks) (d : Docket) → Reached b d → (c : ℕ) → c < length (filed d.claims)
    → LabelStands (concepts d.vocabulary) (claim_at d.claims c).label

-- A CLAIM THAT IS CLOSED AS EMPTY IS EMPTY, in any docket that is reached with sound banks
abbrev pub EmptyClaimsAreEmpty : Type 0
EmptyClaimsAreEmpty = (d : Docket) → Reached sound d → (c : ℕ) → c < length (filed d.claims)
    → (claim_at d.claims c).status ≡ IsEmpty
    → Empty (theory d.vocabulary) (has (claim_at d.claims c).label)

-- A CLAIM THAT IS CLOSED AS INHABITED HAS AN ELEMENT, in any docket that is reached, whatever banks
-- were lent
abbrev pub InhabitedClaimsHaveAnElement : Type 0
InhabitedClaimsHaveAnElement =
    (b : Banks) (d : Docket) → Reached b d → (c : ℕ) → c < length (filed d.claims)
    → (claim_at d.claims c).status ≡ Inhabited
    → Witness (theory d.vocabulary) (has (claim_at d.claims c).label)

-- WHERE A CLAIM IS CLOSED AS INHABITED, NO STANDING LINE'S LABEL LIES WITHIN ITS LABEL, in any
-- docket that is reached with sound banks
abbrev pub InhabitedClaimsHaveNoLine : Type 0
InhabitedClaimsHaveNoLine =
    (d : Docket) → Reached sound d → (c : ℕ) → c < length (filed d.claims)
    → (claim_at d.claims c).status ≡ Inhabited → (k : ℕ) → k < length (lines d)
    → ((e : ℕ) → has (label_of (lines d) k) e ≡ true → has (claim_at d.claims c).label e ≡ true) → ⊥

-- what holds of the claims of every docket that is reached
pub record ClaimsAreRight : Type 0 where
  -- the label of a claim is of standing concepts
  pub claim_labels_stand : ClaimLabelsStand
  -- where a claim is closed as empty, and the banks were sound, no finite interpretation that meets
  -- the axioms has an element in all of its label
  pub empty_claims_are_empty : EmptyClaimsAreEmpty
  -- where it is closed as inhabited, some finite interpretation that meets the axioms has one
  pub inhabited_claims_have_an_element : InhabitedClaimsHaveAnElement
