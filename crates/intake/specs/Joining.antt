-- From a file to a tree: the records of a file, with the replies to them, as a run of calls.
use Rattle.std.specs.Prelude.{◌≡◌, ℕ, ◌≤◌, List, [], ◌∷◌, ◌++◌, length, All, IsOk, Ok, Err, Result}
use Rattle.refusals.specs.declared.Refusal.{Refusal}
use Rattle.calculus.specs.Calculi.{Calculus}
use Rattle.vocabulary.specs.Vocabularies.{theory}
use Rattle.schemas.specs.House.{house}
use Rattle.docket.specs.declared.Docket.{Docket}
use Rattle.docket.specs.declared.phase.Phase.TheVariants.{Sealed}
use Rattle.docket.specs.Runs.{Event, called, Reached, any}
use Rattle.facts.specs.Events.{Each}
use Rattle.facts.specs.Trees.{Tree, root, nodes}
use Rattle.facts.specs.TableTrees.{ClosedByTable}
use Rattle.facts.specs.Filing.{Files, Taken, StandsWith, free}
use Rattle.records.specs.declared.record.Record.{Record}
use Rattle.intake.specs.declared.Reply.{Reply}
use Rattle.intake.specs.Taking.{call_of, RecordsTaken, ended, next}

-- the call of a record with its answer; a malformed record is no call
abbrev pub call_with : Calculus → Result Record Refusal → (old new : List ℕ) → Result ℕ Refusal
    → List Event
call_with k (Ok x) old new a = called (call_of k old new x) a ∷ []
call_with k (Err f) old new a = []

-- the run that a file's records are, once they are taken
abbrev pub run_of : {k : Calculus} {f : List ℕ} {i : ℕ} {d : Docket} {old : List ℕ} {rs : List Reply} {e : Docket} {new : List ℕ}
    → RecordsTaken k f i d old rs e new → List Event
run_of (ended l) = []
run_of {k = k} (next {old = old} {mid = mid} {r = r} l t rest) =
    call_with k t.content old mid r.answer ++ run_of rest

-- what becomes of a tree that records have filed: each line was answered with its number and
-- stands, so the root stands; and if the file has no record but those of the tree's nodes, each
-- record is answered `ok`
pub record TreeFiled (u : Tree) (rs : List Reply) (run : List Event) (e : Docket) (o : Files house u run) : Type 0 where
  pub taken : Each (Taken house e) o.filings
  pub root_stands : StandsWith e (root u).label o.last
  pub all_ok : length rs ≡ nodes u → All (λ r. IsOk r.answer) rs

-- A FILE WHOSE RECORDS, FROM SOME OFFSET ON, FILE A TREE THAT IS CLOSED BY THE TABLE has the tree
-- taken, by a sealed docket with room for it, if children come before their parents, each line
-- cites the numbers that were answered to its children, and the file files nothing else
abbrev pub FiledTreesAreTaken : Type 0
FiledTreesAreTaken =
    (d : Docket) → Reached any d → d.phase ≡ Sealed → (u : Tree)
    → ClosedByTable (theory d.vocabulary) u → nodes u ≤ free d
    → (f : List ℕ) (i : ℕ) (old new : List ℕ) (rs : List Reply) (e : Docket) (taken : RecordsTaken house f i d old rs e new)
    → (o : Files house u (run_of taken)) → TreeFiled u rs (run_of taken) e o
