-- The calls that file, pair, seal and close: what each checks, what it does, and how it answers.
use Rattle.std.specs.Prelude.{◌≡◌, ℕ, ◌+◌, ◌/◌, true, not, ◌⊎◌, List, [], ◌∷◌, ◌++◌, length, Some, None, Ok, Err, Option, Result, nat_le, nat_lt}
use Rattle.refusals.specs.declared.Refusal.{Refusal}
use Rattle.refusals.specs.Table.{returned}
use Rattle.refusals.specs.Checks.{when, with, first}
use Rattle.register.specs.Registers.{room, Pushed}
use Rattle.file_bytes.specs.Bytes.{numbers}
use Rattle.logic.specs.declared.concept.Concept.{Concept}
use Rattle.logic.specs.declared.role.RoleAxiom.TheVariants.{Inclusion, Transitivity}
use Rattle.logic.specs.Pairing.{pairable}
use Rattle.vocabulary.specs.Vocabularies.{theory, ConceptFiled, RolesFiled, AxiomFiled, Paired}
use Rattle.labels.specs.Labels.{row, is_cut, absent_at, falling_at, outside}
use Rattle.models.specs.declared.Model.{Model}
use Rattle.models.specs.Judging.{Judged}
use Rattle.claims.specs.declared.Status.TheVariants.{Empty, Inhabited}
use Rattle.claims.specs.Claiming.{filed, claim_at, is_open, ClaimFiled, Settled}
use Rattle.calculus.specs.Calculi.{Calculus}
use Rattle.book.specs.declared.filing.Draft.{Draft}
use Rattle.book.specs.Lines.{cited_lines, label_of}
use Rattle.book.specs.Drafts.{line_of, draft_checks, Admitted}
use Rattle.docket.specs.declared.Docket.{Docket}
use Rattle.docket.specs.declared.phase.Phase.TheVariants.{Sealed}
use Rattle.docket.specs.declared.phase.Subject.{Subject}
use Rattle.docket.specs.declared.phase.Subject.TheVariants.{RoleAxiom as RoleAxiomSubject, Concept as ConceptSubject, Pair as PairSubject, Axiom as AxiomSubject, Seal as SealSubject, Line as LineSubject, Claim as ClaimSubject, Closing as ClosingSubject}
use Rattle.docket.specs.Phases.{admits}
use Rattle.docket.specs.Fields.{concept_checks, Written}
use Rattle.docket.specs.Dockets.{count, lines}

-- a call, with the numbers that it is given
pub data Call : Type 0 where
  -- two roles, the first below the second
  inclusion : ℕ → ℕ → Call
  -- a role that is transitive
  transitivity : ℕ → Call
  -- a tag and two numbers
  concept : ℕ → ℕ → ℕ → Call
  -- two concepts
  pair : ℕ → ℕ → Call
  -- an axiom: a concept that holds of every element
  «axiom» : ℕ → Call
  seal : Call
  -- a line by the rules of a bank
  line : Calculus → Draft → Call
  -- a claim of the label whose members are in these bytes
  claim : List ℕ → Call
  -- a claim closed by a line
  close_empty : ℕ → ℕ → Call
  -- a claim closed by a model, with working rows that were old before the call and are new after it
  close_inhabited : ℕ → Model → (old new : List ℕ) → Call

abbrev pub subject_of : Call → Subject
subject_of (inclusion r s) = RoleAxiomSubject
subject_of (transitivity r) = RoleAxiomSubject
subject_of (concept t a b) = ConceptSubject
subject_of (pair c d) = PairSubject
subject_of («axiom» c) = AxiomSubject
subject_of seal = SealSubject
subject_of (line k f) = LineSubject
subject_of (claim bytes) = ClaimSubject
subject_of (close_empty c n) = ClosingSubject
subject_of (close_inhabited c m old new) = ClosingSubject

-- what speaks against a call in its phase, in the order of the table of refusals: the condition,
-- then number and place
abbrev pub checks : Call → Docket → List (Option (ℕ × ℕ))
checks (inclusion r s) d =
    when (nat_le 128 r) (3, 0)
    ∷ when (nat_le 128 s) (3, 1)
    ∷ when (nat_le 256 (length (theory d.vocabulary).role_axioms)) (5, 256) ∷ []
checks (transitivity r) d =
    when (nat_le 128 r) (3, 0)
    ∷ when (nat_le 256 (length (theory d.vocabulary).role_axioms)) (5, 256) ∷ []
checks (concept t a b) d =
    concept_checks (count d) t a b
    ++ when (nat_le (room d.vocabulary.concepts) (count d)) (5, room d.vocabulary.concepts) ∷ []
checks (pair a b) d =
    when (nat_le (count d) a) (4, 0)
    ∷ when (nat_le (count d) b) (4, 1)
    ∷ when (not (pairable (theory d.vocabulary) a b)) (7, 0) ∷ []
checks («axiom» c) d =
    when (nat_le (count d) c) (4, 0)
    ∷ when (nat_le 256 (length (theory d.vocabulary).axioms)) (5, 256) ∷ []
checks seal d = []
checks (line k f) d = draft_checks k (theory d.vocabulary) (lines d) (room d.book) f
checks (claim bytes) d =
    when (is_cut bytes) (3, length bytes / 2 + 0)
    ∷ with (λ i. (4, i + 0)) (absent_at (count d) (numbers bytes))
    ∷ when (nat_le 256 (length (filed d.claims))) (5, 256)
    ∷ with (λ i. (6, i + 0)) (falling_at (numbers bytes)) ∷ []
checks (close_empty c n) d =
    when (nat_le (length (filed d.claims)) c) (4, 0)
    ∷ when (nat_le (length (lines d)) n) (4, 1)
    ∷ when (not (is_open (claim_at d.claims c).status)) (10, c)
    ∷ with (λ e. (11, e)) (outside (label_of (lines d) n) (claim_at d.claims c).label) ∷ []
checks (close_inhabited c m old new) d =
    when (nat_lt (length old / 4) (count d)) (3, 4 + (length m.marks.now + length m.edges.now) / 2)
    ∷ when (nat_le (length (filed d.claims)) c) (4, 0)
    ∷ when (not (is_open (claim_at d.claims c).status)) (10, c) ∷ []

-- all that speaks against a call: the phase comes first
abbrev pub all_checks : Call → Docket → List (Option (ℕ × ℕ))
all_checks c d = when (not (admits d.phase (subject_of c))) (2, 0) ∷ checks c d

-- the first refusal of a call, if any: its number and its place
abbrev pub refusal : Call → Docket → Option (ℕ × ℕ)
refusal c d = first (all_checks c d)

-- d becomes e as a call is taken that gives the number i; what isn't named stays as it was
abbrev pub Done : Call → Docket → ℕ → Docket → Type 0
Done (inclusion r s) d i e =
    RolesFiled d.vocabulary e.vocabulary (Inclusion r s) (Some i)
    × (e ≡ record d { vocabulary = e.vocabulary })
Done (transitivity r) d i e =
    RolesFiled d.vocabulary e.vocabulary (Transitivity r) (Some i)
    × (e ≡ record d { vocabulary = e.vocabulary })
Done (concept t a b) d i e =
    (k : Concept) × Written t a b k × ConceptFiled d.vocabulary e.vocabulary k (Ok i)
    × (e ≡ record d { vocabulary = e.vocabulary })
Done (pair a b) d i e =
    Paired d.vocabulary e.vocabulary a b true × (i ≡ 0) × (e ≡ record d { vocabulary = e.vocabulary })
Done («axiom» c) d i e =
    AxiomFiled d.vocabulary e.vocabulary c (Some i) × (e ≡ record d { vocabulary = e.vocabulary })
Done seal d i e = (i ≡ 0) × (e ≡ record d { phase = Sealed })
Done (line k f) d i e =
    Admitted k (theory d.vocabulary) (lines d) (room d.book) f
    × Pushed cited_lines d.book e.book (line_of k f) (Ok i) × (e ≡ record d { book = e.book })
Done (claim bytes) d i e =
    ClaimFiled d.claims e.claims (row (numbers bytes)) (Some i) × (e ≡ record d { claims = e.claims })
Done (close_empty c n) d i e =
    Settled d.claims e.claims c Empty true × (i ≡ 0) × (e ≡ record d { claims = e.claims })
Done (close_inhabited c m old new) d i e =
    Settled d.claims e.claims c Inhabited true × (i ≡ 0) × (e ≡ record d { claims = e.claims })

-- how a model is judged for a claim, once the checks above are clear
abbrev pub JudgedFor : Docket → ℕ → Model → List ℕ → Result (Unit {0}) Refusal → List ℕ → Type 0
JudgedFor d c m old r new = Judged (theory d.vocabulary) (claim_at d.claims c).label m old r new

-- nothing speaks against a call
abbrev pub Clears : Call → Docket → Type 0
Clears (close_inhabited c m old new) d =
    (refusal (close_inhabited c m old new) d ≡ None) × JudgedFor d c m old (Ok tt) new
Clears call d = refusal call d ≡ None

-- a call is refused, by the first check that refuses; or a model by its judgement
abbrev pub Refuses : Call → Docket → Refusal → Type 0
Refuses (close_inhabited c m old new) d x =
    ((refusal (close_inhabited c m old new) d ≡ Some (returned x)) × (new ≡ old))
    ⊎ ((refusal (close_inhabited c m old new) d ≡ None) × JudgedFor d c m old (Err x) new)
Refuses call d x = refusal call d ≡ Some (returned x)

-- THE CONTRACT of every call: if nothing speaks against it, it is done; else the first refusal is
-- returned, and the docket, with its memory, is as it was. What becomes of the working rows,
-- `Refuses` and `JudgedFor` say.
abbrev pub Acts : Call → Docket → Result ℕ Refusal → Docket → Type 0
Acts c d (Ok i) e = Clears c d × Done c d i e
Acts c d (Err x) e = Refuses c d x × (e ≡ d)
