-- The edges of a role name, which are one part of the list, since edges rise by the role name
-- first.
use Rattle.std.specs.Prelude.{◌≡◌, ℕ, ◌<◌, ◌≤◌, cond, List, length, nat_lt, slice_index_or, slice_set}
use denote.Struct.Props as logic
use Rattle.models.specs.declared.edge_parts.Part.{Part}
use Rattle.models.specs.Items.{edges_in, edge_role, edge_at}

-- of the first n edges, those with the role name r are at the places of the part, and no others
pub record IsPart (es : List ℕ) (n r : ℕ) (part : Part) : Type 0 where
  pub in_order : part.start ≤ part.end
  pub within : part.end ≤ n
  pub each : (k : ℕ) → part.start ≤ k → k < part.end → edge_role es k ≡ r
  pub all_after : (k : ℕ) → k < n → edge_role es k ≡ r → part.start ≤ k
  pub all_before : (k : ℕ) → k < n → edge_role es k ≡ r → k < part.end

-- the parts with this one for role name r, if there is such a name
abbrev pub with_part : List Part → ℕ → Part → List Part
with_part parts r part = cond (nat_lt r 64) (slice_set parts r part) parts

-- a part of no edge
abbrev pub no_part : Part
no_part = record { start = 0; end = 0 }

-- each role name has its part of the first n edges
abbrev pub PartsOf : List ℕ → ℕ → List Part → Type 0
PartsOf es n parts = (r : ℕ) → r < 64 → IsPart es n r (slice_index_or parts r no_part)

-- each role name has its part of all edges
abbrev pub AllParts : List ℕ → List Part → Type 0
AllParts es parts = PartsOf es (edges_in es) parts

-- that has one proof at most, as a ghost field asks
pub AllParts-prop : (es : List ℕ) (parts : List Part) → IsProp (AllParts es parts)
AllParts-prop es parts = Prim.hlevel logic.props

-- chunk k is edge i
pub record IsEdge (es : List ℕ) (chunks : List (List ℕ)) (k i : ℕ) : Type 0 where
  pub is_chunk : k < length chunks
  pub is_listed : i < edges_in es
  pub same : (d : List ℕ) → edge_at (slice_index_or chunks k d) 0 ≡ edge_at es i

-- each chunk is an edge of the role name, and each of these edges is a chunk
pub record AreEdgesOf (es : List ℕ) (name : ℕ) (chunks : List (List ℕ)) : Type 0 where
  pub each : (k : ℕ) → k < length chunks → (i : ℕ) × (edge_role es i ≡ name) × IsEdge es chunks k i
  pub all : (i : ℕ) → i < edges_in es → edge_role es i ≡ name → (k : ℕ) × IsEdge es chunks k i
