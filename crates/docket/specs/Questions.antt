-- The questions: what each checks, and what its answer means. A question leaves the docket as it
-- is.
use Rattle.std.specs.Prelude.{◌≡◌, ℕ, ◌+◌, ◌/◌, ◌<◌, Bool, true, ◌↔◌, List, [], ◌∷◌, length, Some, None, Ok, Err, Option, Result, nat_le}
use Rattle.refusals.specs.declared.Refusal.{Refusal}
use Rattle.refusals.specs.Table.{returned}
use Rattle.refusals.specs.Checks.{when, with}
use Rattle.file_bytes.specs.Bytes.{numbers}
use Rattle.labels.specs.Labels.{is_cut, absent_at, falling_at}
use Rattle.logic.specs.declared.role.RoleAxiom.{RoleAxiom}
use Rattle.logic.specs.Roles.{Below, Transitive}
use Rattle.logic.specs.Interpretations.{Interpretation, Includes, IsTransitive, MeetsRoleAxioms}
use Rattle.logic.specs.Meaning.{LiesIn}
use Rattle.logic.specs.Laws.{Complements}
use Rattle.logic.specs.Theories.{AreMates}
use Rattle.logic.specs.Pairing.{Pairable}
use Rattle.vocabulary.specs.declared.Vocabulary.{Vocabulary}
use Rattle.vocabulary.specs.Vocabularies.{concepts, theory}
use Rattle.docket.specs.declared.Docket.{Docket}
use Rattle.docket.specs.Phases.{is_unsealed}
use Rattle.docket.specs.Dockets.{count}

-- the role axioms that stand
abbrev pub roles : Docket → List RoleAxiom
roles d = (theory d.vocabulary).role_axioms

abbrev pub sealed_checks : Docket → List (Option (ℕ × ℕ))
sealed_checks d = when (is_unsealed d.phase) (2, 0) ∷ []

abbrev pub below_checks : Docket → ℕ → ℕ → List (Option (ℕ × ℕ))
below_checks d r s =
    when (is_unsealed d.phase) (2, 0) ∷ when (nat_le 128 r) (3, 0) ∷ when (nat_le 128 s) (3, 1) ∷ []

abbrev pub transitive_checks : Docket → ℕ → List (Option (ℕ × ℕ))
transitive_checks d r = when (is_unsealed d.phase) (2, 0) ∷ when (nat_le 128 r) (3, 0) ∷ []

abbrev pub mate_checks : Docket → ℕ → List (Option (ℕ × ℕ))
mate_checks d c = when (nat_le (count d) c) (4, 0) ∷ []

-- a label alone, whose members are in these bytes
abbrev pub label_checks : Docket → List ℕ → List (Option (ℕ × ℕ))
label_checks d bytes =
    when (is_cut bytes) (3, length bytes / 2 + 0)
    ∷ with (λ i. (4, i + 0)) (absent_at (count d) (numbers bytes))
    ∷ with (λ i. (6, i + 0)) (falling_at (numbers bytes)) ∷ []

-- yes exactly if r is below s; and then every interpretation that meets the role axioms has the
-- pairs of r among those of s
pub record SaysBelow (d : Docket) (r s : ℕ) (b : Bool) : Type 0 where
  pub exact : b ≡ true ↔ Below (roles d) r s
  pub sound : b ≡ true → (I : Interpretation) → MeetsRoleAxioms I (roles d) → Includes I r s

-- yes exactly if r is transitive; and then it is so in every interpretation that meets the role
-- axioms
pub record SaysTransitive (d : Docket) (r : ℕ) (b : Bool) : Type 0 where
  pub exact : b ≡ true ↔ Transitive (roles d) r
  pub sound : b ≡ true → (I : Interpretation) → MeetsRoleAxioms I (roles d) → IsTransitive I r

-- a mate is the complement in every interpretation, and has this concept as its own mate
abbrev pub SaysMate : Docket → ℕ → Option ℕ → Type 0
SaysMate d c None = Unit {0}
SaysMate d c (Some m) =
    ((I : Interpretation) → Complements I (concepts d.vocabulary) c m)
    × AreMates (theory d.vocabulary).mates m c

-- what is right of the value of an answer
abbrev pub OfValue : {A : Type 0} → (A → Type 0) → Result A Refusal → Type 0
OfValue R (Ok x) = R x
OfValue R (Err f) = Unit {0}

-- pairing is refused as impossible exactly where the two can't be paired
pub record PairingIsRight (d : Docket) (c e : ℕ) (a : Result ℕ Refusal) : Type 0 where
  pub taken : (i : ℕ) → a ≡ Ok i → Pairable (theory d.vocabulary) c e
  pub refused : (x : Refusal) → a ≡ Err x → returned x ≡ (7, 0) → Pairable (theory d.vocabulary) c e → ⊥

-- what stood in v means the same in w
abbrev pub MeansTheSame : Vocabulary → Vocabulary → Type 0
MeansTheSame v w =
    (I : Interpretation) (c x : ℕ) → c < length (concepts v) → LiesIn I (concepts v) c x
    ↔ LiesIn I (concepts w) c x
