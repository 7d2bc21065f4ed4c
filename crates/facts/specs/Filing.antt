-- Closed trees are taken, line by line, in every order that puts children before their parents, if
-- nothing else is filed.
use Rattle.std.specs.Prelude.{◌≡◌, ℕ, ◌-◌, ◌<◌, ◌≤◌, false, List, [], ◌∷◌, ◌++◌, length, Ok, Err, Result, slice_index_or}
use Rattle.refusals.specs.declared.Refusal.{Refusal}
use Rattle.register.specs.Registers.{room}
use Rattle.labels.specs.Labels.{row, is_cut}
use Rattle.vocabulary.specs.Vocabularies.{theory}
use Rattle.calculus.specs.Calculi.{Calculus}
use Rattle.book.specs.declared.filing.Draft.{Draft}
use Rattle.book.specs.Lines.{blank_line, label_of}
use Rattle.book.specs.Drafts.{members, line_of}
use Rattle.docket.specs.declared.Docket.{Docket}
use Rattle.docket.specs.declared.phase.Phase.TheVariants.{Sealed}
use Rattle.docket.specs.Dockets.{lines}
use Rattle.docket.specs.Calls.{line}
use Rattle.docket.specs.Runs.{Event, called, any, Ran, Reached}
use Rattle.facts.specs.Events.{Each, Interleaved, NothingFiled}
use Rattle.facts.specs.Proper.{Proper}
use Rattle.facts.specs.Trees.{Node, Tree, leaf, one, two, root, nodes, Closed}

-- the node that a draft writes down
abbrev pub node_of : Draft → Node
node_of f = record { rule = f.rule; on = f.on; label = members f }

-- its members are whole numbers, of two bytes each
abbrev pub IsWhole : Draft → Type 0
IsWhole f = is_cut f.members.now ≡ false

-- a draft that is filed, and the answer
abbrev pub filing : Calculus → Draft → Result ℕ Refusal → Event
filing k f a = called (line k f) a

-- m is the number that was answered, if a number was answered
abbrev pub Cites : ℕ → Result ℕ Refusal → Type 0
Cites m (Ok i) = m ≡ i
Cites m (Err x) = Unit {0}

-- THE TREE IS FILED BY THESE EVENTS, CHILDREN BEFORE PARENTS, and the filing of its root is
-- answered with a: first the subtrees, their filings interleaved in any way, and then the root,
-- which cites what was answered to its children, in their order, and 0 in place of a child that it
-- doesn't have
pub data FiledBy (k : Calculus) : Tree → List Event → Result ℕ Refusal → Type 0 where
  leaf_filed : (f : Draft) (a : Result ℕ Refusal) → IsWhole f → f.m ≡ 0 → f.n ≡ 0
      → FiledBy k (leaf (node_of f)) (filing k f a ∷ []) a
  one_filed : (f : Draft) (a : Result ℕ Refusal) {u : Tree} {xs : List Event} {b : Result ℕ Refusal}
      → FiledBy k u xs b → IsWhole f → Cites f.m b → f.n ≡ 0
      → FiledBy k (one (node_of f) u) (xs ++ filing k f a ∷ []) a
  two_filed : (f : Draft) (a : Result ℕ Refusal)
      {u w : Tree} {xs ys zs : List Event} {b c : Result ℕ Refusal}
      → FiledBy k u xs b → FiledBy k w ys c → Interleaved xs ys zs
      → IsWhole f → Cites f.m b → Cites f.n c
      → FiledBy k (two (node_of f) u w) (zs ++ filing k f a ∷ []) a

-- A run that files the tree and nothing else: its events are the filings of the nodes, in such an
-- order, and between them others by which nothing is filed.
pub record Files (k : Calculus) (u : Tree) (run : List Event) : Type 0 where
  pub filings : List Event
  pub others : List Event
  -- the answer to the filing of the root
  pub last : Result ℕ Refusal
  pub in_order : FiledBy k u filings last
  pub between : Interleaved filings others run
  pub nothing_else : Each NothingFiled others

-- a filing was answered with a number, and in e that line stands as it was drafted
pub record Taken (k : Calculus) (e : Docket) (x : Event) : Type 0 where
  pub draft : Draft
  pub number : ℕ
  pub answered : x ≡ filing k draft (Ok number)
  pub stands : number < length (lines e)
  pub as_drafted : slice_index_or (lines e) number blank_line ≡ line_of k draft

-- the line that was answered stands in e, with this label
pub record StandsWith (e : Docket) (label : List ℕ) (a : Result ℕ Refusal) : Type 0 where
  pub number : ℕ
  pub answered : a ≡ Ok number
  pub stands : number < length (lines e)
  pub has_label : label_of (lines e) number ≡ row label

-- how many lines more there is room for
abbrev pub free : Docket → ℕ
free d = room d.book - length (lines d)

-- EVERY CLOSED TREE FOR WHICH THERE IS ROOM IS TAKEN by a sealed docket, in whatever order its
-- lines are filed, if children come before their parents, each line cites the numbers that were
-- answered to its children, and the run files nothing else: each line is answered with its number
-- and stands as it was drafted, and so the root stands with the root's label. Any banks may have
-- been lent before, and to what is refused or asked between.
abbrev pub TreesAreTaken : Calculus → Type 0
TreesAreTaken k =
    (d : Docket) → Reached any d → d.phase ≡ Sealed
    → (u : Tree) → Closed k (theory d.vocabulary) u → nodes u ≤ free d
    → (run : List Event) (o : Files k u run) (e : Docket) → Ran any d run e
    → Each (Taken k e) o.filings × StandsWith e (root u).label o.last

-- by every calculus of proper rules, sound or not
abbrev pub ClosedTreesAreTaken : Type 0
ClosedTreesAreTaken = (k : Calculus) → Proper k → TreesAreTaken k
