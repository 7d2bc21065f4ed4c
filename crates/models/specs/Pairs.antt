-- The pairs of a role in a table, and what a role axiom asks of each edge.
use Rattle.std.specs.Prelude.{◌≡◌, ℕ, ◌<◌, T, List}
use denote.Struct.Props as logic
use Rattle.bits.specs.Bits.{bit, has}
use Rattle.rows.specs.Rows.{contains}
use Rattle.logic.specs.Interpretations.{Interpretation, leads, Leads}
use Rattle.models.specs.declared.Model.{Model}
use Rattle.models.specs.declared.items.Edge.{Edge}
use Rattle.models.specs.Items.{source, target}
use Rattle.models.specs.Models.{described}

-- every bit of the word y is one of x
pub record WordWithin (y x : ℕ) : Type 0 where
  pub bits : (j : ℕ) → j < 64 → T (bit y j) → T (bit x j)

-- every element of the row y is in the row x
abbrev pub Within : List ℕ → List ℕ → Type 0
Within y x = (e : ℕ) → e < 256 → T (has y e) → T (has x e)

-- row x of the table has the elements that role r leads to from x
abbrev pub Tabled : Model → ℕ → List ℕ → Type 0
Tabled m r table = (x z : ℕ) → x < 256 → z < 256 → contains table x z ≡ leads (described m) r x z

-- that has one proof at most, as a ghost field asks
pub Tabled-prop : (m : Model) (r : ℕ) (table : List ℕ) → IsProp (Tabled m r table)
Tabled-prop m r table = Prim.hlevel logic.props

-- the role leads from x to all elements that it leads to from y
abbrev pub LeadsOn : Interpretation → ℕ → ℕ → ℕ → Type 0
LeadsOn I r x y = (z : ℕ) → z < 256 → Leads I r y z → Leads I r x z

-- an edge, as a pair of role r, is a pair of role s
abbrev pub PairIncluded : Model → ℕ → ℕ → Edge → Type 0
PairIncluded m r s e = Leads (described m) s (source r e) (target r e)

-- an edge, as a pair of role r, goes on by role s in one step
abbrev pub PairContinued : Model → ℕ → ℕ → Edge → Type 0
PairContinued m r s e = LeadsOn (described m) s (source r e) (target r e)

-- if edge f goes on from edge e, both as pairs of role r, one pair of it makes the steps of the two
abbrev pub Shortcut : Model → ℕ → Edge → Edge → Type 0
Shortcut m r e f = source r f ≡ target r e → Leads (described m) r (source r e) (target r f)
