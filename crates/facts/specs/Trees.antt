-- Closed trees: whole derivations, before any of their lines is filed.
use Rattle.std.specs.Prelude.{◌≡◌, ℕ, ◌+◌, ◌<◌, true, List, length, slice_index}
use Rattle.bits.specs.Among.{among}
use Rattle.logic.specs.Theories.{Theory}
use Rattle.calculus.specs.declared.rule.Principals.{Principals}
use Rattle.calculus.specs.Calculi.{Calculus}

-- a step of a rule, and the members of the label at which it is made
pub record Node : Type 0 where
  pub rule : ℕ
  pub on : Principals
  pub label : List ℕ

pub data Tree : Type 0 where
  leaf : Node → Tree
  one : Node → Tree → Tree
  two : Node → Tree → Tree → Tree

abbrev pub root : Tree → Node
root (leaf n) = n
root (one n u) = n
root (two n u w) = n

-- how many nodes it has
abbrev pub nodes : Tree → ℕ
nodes (leaf n) = 1
nodes (one n u) = nodes u + 1
nodes (two n u w) = nodes u + nodes w + 1

-- each number is below the next
abbrev pub Rising : List ℕ → Type 0
Rising ms = (i : ℕ) → i + 1 < length ms → slice_index ms i < slice_index ms (i + 1)

-- the label is a rising list of standing concepts, and a step of one of the rules k applies to it
pub record Applied (k : Calculus) (t : Theory) (n : Node) : Type 0 where
  pub rising : Rising n.label
  pub stands : (c : ℕ) → among n.label c ≡ true → c < length t.concepts
  pub known : k.has n.rule ≡ true
  pub applies : k.applies n.rule t n.on (among n.label) ≡ true

-- the label of the child has exactly the concepts of the step's conclusion i
abbrev pub Carries : Calculus → Theory → Node → ℕ → Node → Type 0
Carries k t n i child = (c : ℕ) → c < length t.concepts
    → among child.label c ≡ k.concludes n.rule t n.on (among n.label) i c

-- EVERY STEP APPLIES, AND THERE IS A CHILD FOR EACH OF ITS CONCLUSIONS, in their order
abbrev pub Closed : Calculus → Theory → Tree → Type 0
Closed k t (leaf n) = Applied k t n × (k.cites n.rule ≡ 0)
Closed k t (one n u) =
    Applied k t n × (k.cites n.rule ≡ 1) × Carries k t n 0 (root u) × Closed k t u
Closed k t (two n u w) =
    Applied k t n × (k.cites n.rule ≡ 2) × Carries k t n 0 (root u) × Carries k t n 1 (root w)
    × Closed k t u × Closed k t w
