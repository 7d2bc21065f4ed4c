-- Small dockets, and what is filed with them.
use Rattle.std.specs.Prelude.{ℕ, ◌-◌, ◌/◌, List, [], ◌∷◌, ◌++◌, length, replicate, Some, None}
use Rattle.std.specs.Prelude.{Option}
use Rattle.std.specs.Borrow.{Bor, MutBor}
use Rattle.register.specs.declared.store.Register.{Register}
use Rattle.logic.specs.declared.concept.Concept.{Concept}
use Rattle.logic.specs.declared.concept.Concept.TheVariants.{Top, Name, NotName, Only, Exists}
use Rattle.logic.specs.declared.role.RoleAxiom.{RoleAxiom}
use Rattle.logic.specs.declared.role.RoleAxiom.TheVariants.{Transitivity}
use Rattle.labels.specs.Labels.{row}
use Rattle.vocabulary.specs.declared.Vocabulary.{Vocabulary}
use Rattle.models.specs.declared.Model.{Model}
use Rattle.claims.specs.declared.Status.{Status}
use Rattle.claims.specs.declared.Claim.{Claim}
use Rattle.schemas.specs.House.{house}
use Rattle.book.specs.declared.filing.Draft.{Draft}
use Rattle.book.specs.declared.line.Line.{Line}
use Rattle.book.specs.Lines.{blank_line}
use Rattle.book.specs.Drafts.{line_of}
use Rattle.docket.specs.declared.Docket.{Docket}
use Rattle.docket.specs.declared.phase.Phase.{Phase}
use Rattle.examples.specs.Ordering.{passed, passed_ordered}

-- numbers below 256, each in two bytes
abbrev pub bytes : List ℕ → List ℕ
bytes [] = []
bytes (m ∷ ms) = m ∷ 0 ∷ bytes ms

-- bytes that a call is handed, and memory that the host lends, wherever they lie
abbrev pub handed : List ℕ → Bor (List ℕ)
handed ms = record { ref_ptr = (0, 0); now = bytes ms }

abbrev pub lent : {X : Type 0} → List X → MutBor (List X)
lent xs = record { ref_ptr = (0, 0); ghost_name = 0; now = xs }

-- a register with room for n, and with these entries, if each refers to earlier ones alone; else
-- with none
abbrev pub register : {X : Type 0} {g : _} → ℕ → X → List X → Register X g
register {X} {g} n free xs =
    let taken = passed g.references xs in record {
      slots = lent (taken ++ replicate (n - length taken) free);
      used = length taken;
      capacity = n;
      ordered = passed_ordered g.references xs (replicate (n - length taken) free);
    }

abbrev pub no_role_axiom : List RoleAxiom
no_role_axiom = []

abbrev pub role_0_transitive : List RoleAxiom
role_0_transitive = Transitivity 0 ∷ []

-- the concepts from five on have no mate
unfoldable pub no_mates : List (Option ℕ)
no_mates = replicate 1019 None

-- a vocabulary without axioms, with these role axioms, these concepts, and these mates of the first
-- five
abbrev pub vocabulary : List RoleAxiom → List Concept → List (Option ℕ) → Vocabulary
vocabulary roles cs ms = record {
  roles = roles;
  concepts = register 8 Top cs;
  mates = record { of = ms ++ no_mates };
  axioms = [];
}

-- a docket with room for five lines
abbrev pub docket : Phase → Vocabulary → List Line → List Claim → Docket
docket phase v ls cs = record {
  phase = phase;
  vocabulary = v;
  book = register 5 blank_line ls;
  claims = record { list = cs };
}

-- A, "not A", "only S not A" and "some R" of that, "some S A" and "only R" of that, where role R is
-- 0 and role S its inverse
abbrev pub six_concepts : List Concept
six_concepts = Name 0 ∷ NotName 0 ∷ Only 1 1 ∷ Exists 0 2 ∷ Exists 1 0 ∷ Only 0 4 ∷ []

-- and "only S" of "some S A"
abbrev pub seven_concepts : List Concept
seven_concepts = six_concepts ++ Only 1 4 ∷ []

-- mates of the first five: none; 0 and 1, and 2 and 4
abbrev pub no_pair : List (Option ℕ)
no_pair = None ∷ None ∷ None ∷ None ∷ None ∷ []

abbrev pub two_pairs : List (Option ℕ)
two_pairs = Some 1 ∷ Some 0 ∷ Some 4 ∷ None ∷ Some 2 ∷ []

abbrev pub six : Vocabulary
six = vocabulary no_role_axiom six_concepts two_pairs

abbrev pub seven : Vocabulary
seven = vocabulary no_role_axiom seven_concepts two_pairs

-- one concept, and a transitive role
abbrev pub one_transitive : Vocabulary
one_transitive = vocabulary role_0_transitive (Top ∷ []) no_pair

-- the drafts: a rule, the concepts p, q and s, the lines that are cited, and a label
abbrev pub draft : (rule p q s m n : ℕ) → List ℕ → Draft
draft rule p q s m n ms = record {
  rule = rule;
  on = record { p = p; q = q; s = s };
  m = m;
  n = n;
  members = handed ms;
}

-- the mates 0 and 1 clash, and the mates 2 and 4
abbrev pub clash : Draft
clash = draft 2 0 1 0 0 0 (0 ∷ 1 ∷ [])

abbrev pub other_clash : Draft
other_clash = draft 2 2 4 0 0 0 (2 ∷ 4 ∷ [])

-- concept 3 asks for a neighbour in 2, to which concept 5 passes 4
abbrev pub neighbour : Draft
neighbour = draft 10 3 0 0 1 0 (0 ∷ 3 ∷ 5 ∷ [])

-- a cut by the mates 1 and 0: 1 in the first case, and in the second 0 and s
abbrev pub cut_with : ℕ → Draft
cut_with s = draft 8 1 0 s 0 2 (0 ∷ 3 ∷ [])

abbrev pub four_lines : List Line
four_lines =
    line_of house clash
    ∷ line_of house other_clash
    ∷ line_of house neighbour
    ∷ line_of house (cut_with 5)
    ∷ []

-- a claim of the label with these members
abbrev pub claim_of : List ℕ → Status → Claim
claim_of ms s = record { label = row ms; status = s }

-- three claims
abbrev pub three_claims : (first second third : Status) → List Claim
three_claims x y z = claim_of (0 ∷ 3 ∷ []) x ∷ claim_of (0 ∷ []) y ∷ claim_of (3 ∷ []) z ∷ []

-- a model with this many elements, the point 0, these marks, each an element and a name, and these
-- edges, each a role name and its ends
abbrev pub model : ℕ → (marks edges : List ℕ) → Model
model n ms es = record {
  size = n;
  point = 0;
  mark_count = length ms / 2;
  marks = handed ms;
  edges = handed es;
}

-- element 0 has the name of A
abbrev pub one_mark : List ℕ
one_mark = 0 ∷ 0 ∷ []

abbrev pub one_edge : List ℕ
one_edge = 0 ∷ 0 ∷ 1 ∷ []

-- a chain of two edges, and the same with its shortcut
abbrev pub chain : List ℕ
chain = 0 ∷ 0 ∷ 1 ∷ 0 ∷ 1 ∷ 2 ∷ []

abbrev pub closed_chain : List ℕ
closed_chain = 0 ∷ 0 ∷ 1 ∷ 0 ∷ 0 ∷ 2 ∷ 0 ∷ 1 ∷ 2 ∷ []

-- working rows that are sets of few elements, each by its first word
abbrev pub rows : List ℕ → List ℕ
rows [] = []
rows (w ∷ ws) = w ∷ 0 ∷ 0 ∷ 0 ∷ rows ws

-- the sets of the six concepts: none yet, and those in a model of two elements without an edge,
-- with one, and with a mark too
abbrev pub rows_at_first : List ℕ
rows_at_first = rows (0 ∷ 0 ∷ 0 ∷ 0 ∷ 0 ∷ 0 ∷ [])

abbrev pub rows_without_edge : List ℕ
rows_without_edge = rows (0 ∷ 3 ∷ 3 ∷ 0 ∷ 0 ∷ 3 ∷ [])

abbrev pub rows_with_edge : List ℕ
rows_with_edge = rows (0 ∷ 3 ∷ 3 ∷ 1 ∷ 0 ∷ 2 ∷ [])

abbrev pub rows_with_mark : List ℕ
rows_with_mark = rows (1 ∷ 2 ∷ 1 ∷ 0 ∷ 2 ∷ 3 ∷ [])
