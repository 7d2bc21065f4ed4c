-- Closed trees in the words of the table of rules, and that they are taken.
use Rattle.std.specs.Prelude.{◌≡◌, ℕ, ◌-◌, ◌<◌, ◌≤◌, true, ◌↔◌, List, length, slice_index}
use Rattle.bits.specs.Among.{among}
use Rattle.logic.specs.Theories.{Theory}
use Rattle.vocabulary.specs.Vocabularies.{theory}
use Rattle.schemas.specs.Table.{Applies, Concludes, conclusions}
use Rattle.schemas.specs.House.{house}
use Rattle.docket.specs.declared.Docket.{Docket}
use Rattle.docket.specs.declared.phase.Phase.TheVariants.{Sealed}
use Rattle.docket.specs.Runs.{Event, any, Ran, Reached}
use Rattle.facts.specs.Events.{Each}
use Rattle.facts.specs.Trees.{Node, Tree, leaf, one, two, root, nodes, Rising}
use Rattle.facts.specs.Filing.{Files, Taken, StandsWith, free}

-- the label is a rising list of standing concepts, and by the table the step applies to it
pub record AppliedByTable (t : Theory) (n : Node) : Type 0 where
  pub rising : Rising n.label
  pub stands : (c : ℕ) → among n.label c ≡ true → c < length t.concepts
  pub applies : Applies t (among n.label) n.rule n.on.p n.on.q n.on.s

-- how many conclusions the table gives the rule of a step
abbrev pub conclusions_of : Node → ℕ
conclusions_of n = slice_index conclusions (n.rule - 1)

-- the label of the child has exactly the concepts that are in the step's conclusion i by the table
abbrev pub CarriesByTable : Theory → Node → ℕ → Node → Type 0
CarriesByTable t n i child = (c : ℕ)
    → (among child.label c ≡ true) ↔ Concludes t (among n.label) n.rule n.on.p n.on.q n.on.s i c

-- EVERY STEP APPLIES BY THE TABLE, AND THERE IS A CHILD FOR EACH OF ITS CONCLUSIONS, in their order
abbrev pub ClosedByTable : Theory → Tree → Type 0
ClosedByTable t (leaf n) = AppliedByTable t n × (conclusions_of n ≡ 0)
ClosedByTable t (one n u) =
    AppliedByTable t n × (conclusions_of n ≡ 1) × CarriesByTable t n 0 (root u) × ClosedByTable t u
ClosedByTable t (two n u w) =
    AppliedByTable t n × (conclusions_of n ≡ 2)
    × CarriesByTable t n 0 (root u) × CarriesByTable t n 1 (root w)
    × ClosedByTable t u × ClosedByTable t w

-- EVERY TREE THAT IS CLOSED BY THE TABLE AND FOR WHICH THERE IS ROOM IS TAKEN by a sealed docket,
-- by the house's ten rules, in whatever order its lines are filed, if children come before their
-- parents, each line has a label of whole members and cites the numbers that were answered to its
-- children, and the run files nothing else: each line is answered with its number and stands as it
-- was drafted, and so the root stands with the root's label. Any banks may have been lent before,
-- and to what is refused or asked between.
abbrev pub HouseTreesAreTaken : Type 0
HouseTreesAreTaken =
    (d : Docket) → Reached any d → d.phase ≡ Sealed
    → (u : Tree) → ClosedByTable (theory d.vocabulary) u → nodes u ≤ free d
    → (run : List Event) (o : Files house u run) (e : Docket) → Ran any d run e
    → Each (Taken house e) o.filings × StandsWith e (root u).label o.last
