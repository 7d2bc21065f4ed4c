-- Models, when they are well formed, and the interpretations that they describe.
use Rattle.std.specs.Prelude.{◌≡◌, ℕ, ◌+◌, ◌-◌, ◌*◌, ◌%◌, ◌<◌, ◌≤◌, length, Some, None, Option}
use Rattle.logic.specs.Interpretations.{Interpretation}
use Rattle.models.specs.declared.Model.{Model}
use Rattle.models.specs.Firsts.{First}
use Rattle.models.specs.Items.{marks_in, edges_in, GoodMark, GoodEdge, marked, joined}

-- the numbers, the counts and the lengths are right
pub record Sized (m : Model) : Type 0 where
  pub inhabited : 0 < m.size
  pub few_elements : m.size ≤ 256
  pub pointed : m.point < m.size
  pub few_marks : m.mark_count ≤ 4096
  pub whole_marks : length m.marks.now ≡ 4 * m.mark_count
  pub whole_edges : length m.edges.now % 6 ≡ 0
  pub few_edges : edges_in m.edges.now ≤ 4096

-- the first mark and the first edge that isn't good, if any
abbrev pub FirstBadMark : Model → Option ℕ → Type 0
FirstBadMark m bad = First (GoodMark m.marks.now m.size) (marks_in m.marks.now) bad

abbrev pub FirstBadEdge : Model → Option ℕ → Type 0
FirstBadEdge m bad = First (GoodEdge m.edges.now m.size) (edges_in m.edges.now) bad

-- sized, with no bad mark and no bad edge
pub record WellFormed (m : Model) : Type 0 where
  pub sized : Sized m
  pub good_marks : FirstBadMark m None
  pub good_edges : FirstBadEdge m None

-- where a model is wrong first: 0 for its numbers, counts and lengths, from 1 up for its marks and
-- then its edges
pub data FirstFlaw (m : Model) : ℕ → Type 0 where
  not_sized : (Sized m → ⊥) → FirstFlaw m 0
  bad_mark : {i : ℕ} → Sized m → FirstBadMark m (Some i) → FirstFlaw m (1 + i)
  bad_edge : {i : ℕ} → Sized m → FirstBadMark m None → FirstBadEdge m (Some i)
      → FirstFlaw m (1 + m.mark_count + i)

-- The interpretation that a model describes: its elements are numbered from 0, an element is in a
-- name exactly if the mark is listed, and a role name leads from one to another exactly if the edge
-- is.
abbrev pub described : Model → Interpretation
described m =
    record { last = m.size - 1; named = λ a e. marked m.marks.now a e; linked = λ r x y. joined m.edges.now r x y }
