-- Worked cases, and what each says.
use Rattle.std.specs.Prelude.{◌≡◌, ℕ, Bool, true, false, List, [], ◌∷◌, Result}
use Rattle.refusals.specs.declared.Refusal.{Refusal}
use Rattle.refusals.specs.Table.{returned}
use Rattle.bits.specs.Among.{among}
use Rattle.logic.specs.declared.concept.Concept.{Concept}
use Rattle.logic.specs.declared.role.RoleAxiom.{RoleAxiom}
use Rattle.logic.specs.Roles.{Below, Transitive}
use Rattle.logic.specs.Interpretations.{MeetsRoleAxioms}
use Rattle.logic.specs.Meaning.{LiesIn}
use Rattle.logic.specs.Theories.{Theory}
use Rattle.vocabulary.specs.Vocabularies.{theory}
use Rattle.register.specs.Registers.{room}
use Rattle.schemas.specs.Table.{Applies}
use Rattle.schemas.specs.House.{house}
use Rattle.book.specs.declared.filing.Draft.{Draft}
use Rattle.book.specs.Drafts.{Admitted}
use Rattle.models.specs.declared.Model.{Model}
use Rattle.models.specs.Models.{described}
use Rattle.docket.specs.declared.Docket.{Docket}
use Rattle.docket.specs.Dockets.{lines, Fresh}
use Rattle.docket.specs.Calls.{Call, Acts}
use Rattle.docket.specs.Runs.{Event, Banks, Ran, Reached}

pub data Case : Type 0 where
  -- under these role axioms role r is below role s, or it isn't
  below : List RoleAxiom → (r s : ℕ) → Bool → Case
  -- under these role axioms role r is transitive, or it isn't
  transitive : List RoleAxiom → (r : ℕ) → Bool → Case
  -- under this theory, and at the label with these members, the step applies, or it doesn't
  applies : Theory → List ℕ → (rule p q s : ℕ) → Bool → Case
  -- the docket has what filing asks for the draft by the ten rules, or it hasn't
  admits : Docket → Draft → Bool → Case
  -- the model meets these role axioms, or it doesn't
  meets : Model → List RoleAxiom → Bool → Case
  -- in the model this element lies in concept c of the list, or it doesn't
  lies : Model → List Concept → (c e : ℕ) → Bool → Case
  -- the docket was just opened
  opens : Docket → Case
  -- the docket began new, and only calls and questions have acted on it since, with such banks
  reaches : Banks → Docket → Case
  -- the first docket becomes the second by these events, with such banks
  runs : Banks → Docket → List Event → Docket → Case
  -- the docket gives the call this answer, and can give no other
  answers : Docket → Call → Result ℕ Refusal → Case
  -- the refusal is returned as this number and this place
  returns : Refusal → (number place : ℕ) → Case

-- the statement holds, or it doesn't
abbrev pub Is : Type 0 → Bool → Type 0
Is P true = P
Is P false = P → ⊥

abbrev pub Holds : Case → Type 0
Holds (below axioms r s b) = Is (Below axioms r s) b
Holds (transitive axioms r b) = Is (Transitive axioms r) b
Holds (applies t ms rule p q s b) = Is (Applies t (among ms) rule p q s) b
Holds (admits d f b) = Is (Admitted house (theory d.vocabulary) (lines d) (room d.book) f) b
Holds (meets m axioms b) = Is (MeetsRoleAxioms (described m) axioms) b
Holds (lies m cs c e b) = Is (LiesIn (described m) cs c e) b
Holds (opens d) = Fresh d
Holds (reaches b d) = Reached b d
Holds (runs b d xs e) = Ran b d xs e
Holds (answers d c a) =
    ((e : Docket) × Acts c d a e) × ((b : Result ℕ Refusal) (e : Docket) → Acts c d b e → b ≡ a)
Holds (returns x number place) = returned x ≡ (number, place)

abbrev pub AllHold : List Case → Type 0
AllHold [] = Unit {0}
AllHold (c ∷ cs) = Holds c × AllHold cs
