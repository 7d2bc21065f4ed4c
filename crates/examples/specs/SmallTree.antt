-- One small tree that is closed by the table. That its filing is taken is what the fact of closed
-- trees says of it.
use Rattle.std.specs.Prelude.{◌≡◌, ℕ, ◌≤◌, List, [], ◌∷◌, Ok, Result}
use Rattle.refusals.specs.declared.Refusal.{Refusal}
use Rattle.vocabulary.specs.Vocabularies.{theory}
use Rattle.schemas.specs.House.{house}
use Rattle.book.specs.declared.filing.Draft.{Draft}
use Rattle.docket.specs.declared.Docket.{Docket}
use Rattle.docket.specs.declared.phase.Phase.TheVariants.{Sealed}
use Rattle.docket.specs.Runs.{Event, any, Ran, Reached}
use Rattle.facts.specs.Events.{Each, Interleaved, NothingFiled}
use Rattle.facts.specs.Trees.{Node, Tree, leaf, one, root}
use Rattle.facts.specs.TableTrees.{ClosedByTable}
use Rattle.facts.specs.Filing.{filing, Cites, Taken, StandsWith, free}
use Rattle.examples.specs.SmallDocket.{six, draft, other_clash}
use Rattle.examples.specs.RunCases.{sealed}

-- the mates 2 and 4 clash
abbrev pub clash_node : Node
clash_node = record { rule = 2; on = record { p = 2; q = 4; s = 0 }; label = 2 ∷ 4 ∷ [] }

-- concept 3 asks for a neighbour in 2, to which concept 5 passes 4
abbrev pub asking_node : Node
asking_node = record { rule = 10; on = record { p = 3; q = 0; s = 0 }; label = 0 ∷ 3 ∷ 5 ∷ [] }

-- the neighbour is in 2 and 4, which clash
abbrev pub small_tree : Tree
small_tree = one asking_node (leaf clash_node)

-- the draft of its root, which cites line m
abbrev pub asking : ℕ → Draft
asking m = draft 10 3 0 0 m 0 (0 ∷ 3 ∷ 5 ∷ [])

-- the filing of the two drafts, the child first, and what was answered to each
abbrev pub filings : (m : ℕ) (a b : Result ℕ Refusal) → List Event
filings m a b = filing house other_clash a ∷ filing house (asking m) b ∷ []

-- a docket that is reached and sealed, and has the small docket's theory and two free lines
pub record IsReady (d : Docket) : Type 0 where
  pub reached : Reached any d
  pub is_sealed : d.phase ≡ Sealed
  pub same_theory : theory d.vocabulary ≡ theory six
  pub two_free : 2 ≤ free d

-- EVERY SUCH DOCKET TAKES THE TREE: if the two drafts are filed, and nothing else is, and the root
-- cites the number that was answered to its child, then both are answered with their numbers and
-- stand as they were drafted, and so the root stands with its label
abbrev pub IsTaken : Type 0
IsTaken = (d : Docket) → IsReady d → (m : ℕ) (a b : Result ℕ Refusal) → Cites m a
    → (others run : List Event) → Interleaved (filings m a b) others run → Each NothingFiled others
    → (e : Docket) → Ran any d run e
    → Each (Taken house e) (filings m a b) × StandsWith e (root small_tree).label b

-- what holds of the tree
pub record SmallTree : Type 0 where
  -- it is closed by the table
  pub closed : ClosedByTable (theory six) small_tree
  -- it is taken
  pub taken : IsTaken
  -- the small docket is such a docket, and there is such a run
  pub ready : IsReady sealed
  pub run : (e : Docket) × Ran any sealed (filings 0 (Ok 0) (Ok 1)) e
