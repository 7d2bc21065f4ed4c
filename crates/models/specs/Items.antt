-- The marks and the edges of a model, as they stand in bytes: a mark has two fields, an edge three.
use Rattle.std.specs.Prelude.{◌≡◌, ℕ, ◌+◌, ◌-◌, ◌*◌, ◌/◌, ◌%◌, ◌<◌, Bool, cond, ◌&&◌, ◌⊎◌, List, length, ◌==◌, slice_index_or}
use Rattle.file_bytes.specs.Bytes.{field}
use Rattle.models.specs.declared.items.Mark.{Mark}
use Rattle.models.specs.declared.items.Edge.{Edge}
use Rattle.bits.specs.Below.{some_below}

-- how many there are
abbrev pub marks_in : List ℕ → ℕ
marks_in ms = length ms / 4

abbrev pub edges_in : List ℕ → ℕ
edges_in es = length es / 6

-- mark i: an element and a name
abbrev pub mark_element : List ℕ → ℕ → ℕ
mark_element ms i = field ms (2 * i)

abbrev pub mark_name : List ℕ → ℕ → ℕ
mark_name ms i = field ms (2 * i + 1)

-- edge i: a role name and the elements that it leads from and to
abbrev pub edge_role : List ℕ → ℕ → ℕ
edge_role es i = field es (3 * i)

abbrev pub edge_from : List ℕ → ℕ → ℕ
edge_from es i = field es (3 * i + 1)

abbrev pub edge_to : List ℕ → ℕ → ℕ
edge_to es i = field es (3 * i + 2)

-- mark i and edge i as values
abbrev pub mark_at : List ℕ → ℕ → Mark
mark_at ms i = record { element = mark_element ms i; name = mark_name ms i }

abbrev pub edge_at : List ℕ → ℕ → Edge
edge_at es i = record { role_name = edge_role es i; from = edge_from es i; to = edge_to es i }

-- the chunks are the bytes of the marks, and of the edges, each by itself
pub record AreMarks (ms : List ℕ) (chunks : List (List ℕ)) : Type 0 where
  pub many : length chunks ≡ marks_in ms
  pub reads : (k : ℕ) (d : List ℕ) → k < marks_in ms
      → mark_at (slice_index_or chunks k d) 0 ≡ mark_at ms k

pub record AreEdges (es : List ℕ) (chunks : List (List ℕ)) : Type 0 where
  pub many : length chunks ≡ edges_in es
  pub reads : (k : ℕ) (d : List ℕ) → k < edges_in es
      → edge_at (slice_index_or chunks k d) 0 ≡ edge_at es k

-- the lexicographic order of pairs and of triples
abbrev pub PairBefore : ℕ → ℕ → ℕ → ℕ → Type 0
PairBefore x y x' y' = (x < x') ⊎ ((x ≡ x') × (y < y'))

abbrev pub TripleBefore : ℕ → ℕ → ℕ → ℕ → ℕ → ℕ → Type 0
TripleBefore r x y r' x' y' = (r < r') ⊎ ((r ≡ r') × PairBefore x y x' y')

abbrev pub EdgeBefore : Edge → Edge → Type 0
EdgeBefore e f = TripleBefore e.role_name e.from e.to f.role_name f.from f.to

-- mark i is in range in a model of n elements, and above the one before
pub record GoodMark (ms : List ℕ) (n i : ℕ) : Type 0 where
  pub element_in_range : mark_element ms i < n
  pub name_in_range : mark_name ms i < 1024
  pub mark_rises : 0 < i
      → PairBefore (mark_element ms (i - 1)) (mark_name ms (i - 1)) (mark_element ms i) (mark_name ms i)

-- edge i is in range in a model of n elements, and above the one before
pub record GoodEdge (es : List ℕ) (n i : ℕ) : Type 0 where
  pub role_in_range : edge_role es i < 64
  pub from_in_range : edge_from es i < n
  pub to_in_range : edge_to es i < n
  pub edge_rises : 0 < i
      → TripleBefore (edge_role es (i - 1)) (edge_from es (i - 1)) (edge_to es (i - 1)) (edge_role es i) (edge_from es i) (edge_to es i)

-- whether the mark (e, a) is listed
abbrev pub marked : List ℕ → ℕ → ℕ → Bool
marked ms a e = some_below (marks_in ms) (λ i. (mark_name ms i == a) && mark_element ms i == e)

-- whether the edge (r, x, y) is listed
abbrev pub joined : List ℕ → ℕ → ℕ → ℕ → Bool
joined es r x y =
    some_below (edges_in es) (λ i. (edge_role es i == r) && (edge_from es i == x && edge_to es i == y))

-- the ends of an edge along a role of its name, which may be the inverse
abbrev pub source : ℕ → Edge → ℕ
source r e = cond (r % 2 == 0) e.from e.to

abbrev pub target : ℕ → Edge → ℕ
target r e = cond (r % 2 == 0) e.to e.from

abbrev pub edge_source : List ℕ → ℕ → ℕ → ℕ
edge_source es r i = source r (edge_at es i)

abbrev pub edge_target : List ℕ → ℕ → ℕ → ℕ
edge_target es r i = target r (edge_at es i)
