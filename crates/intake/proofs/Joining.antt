-- The records of a file are a run of calls, and a tree that they file is taken.
use Rattle.std.proofs.Common.{ℕ, ◌≤◌, List, [], ◌∷◌, ◌++◌, length, Ok, Err, Result, sym, refl, subst, arith, length-append}
use Rattle.std.specs.Prelude.{All, IsOk}
use Rattle.std.proofs.lemmas.List.Elements.{All-nil, All-cons}
use Rattle.refusals.specs.declared.Refusal.{Refusal}
use Rattle.calculus.specs.Calculi.{Calculus}
use Rattle.schemas.specs.House.{house}
use Rattle.docket.specs.declared.Docket.{Docket}
use Rattle.docket.specs.Calls.{Call, inclusion, transitivity, concept, pair, «axiom», seal, line, claim, close_empty, close_inhabited}
use Rattle.docket.specs.Runs.{Event, called, asked, any, LendsCall, Ran}
use Rattle.docket.proofs.Running.{ran_on}
use Rattle.facts.specs.Events.{Each}
use Rattle.facts.specs.Filing.{Taken}
use Rattle.facts.proofs.HouseTrees.{house_trees_are_taken}
use Rattle.facts.proofs.Interleaving.{length_interleaved, each_interleaved, each_map}
use Rattle.facts.proofs.Taking.{filed_nodes}
use Rattle.records.specs.declared.record.Record.{Record}
use Rattle.intake.specs.declared.Reply.{Reply}
use Rattle.intake.specs.Taking.{call_of, TakesContent, RecordsTaken, ended, next}
use Rattle.intake.specs.Joining.{call_with, run_of, FiledTreesAreTaken}

-- any bank serves
lends_any : (c : Call) → LendsCall any c
lends_any (inclusion r s) = tt
lends_any (transitivity r) = tt
lends_any (concept t a b) = tt
lends_any (pair x y) = tt
lends_any («axiom» x) = tt
lends_any seal = tt
lends_any (line k f) = tt
lends_any (claim bytes) = tt
lends_any (close_empty c n) = tt
lends_any (close_inhabited c m old new) = tt

-- one record
record_ran : (k : Calculus) (x : Result Record Refusal) (d e : Docket) (old new : List ℕ) (a : Result ℕ Refusal) → TakesContent k x d old a e new
    → Ran any d (call_with k x old new a) e
record_ran k (Ok x) d e old new a h = (e, lends_any (call_of k old new x), h.0, refl)
record_ran k (Err f) d e old new a h = h.1

pub records_ran : {k : Calculus} {f : List ℕ} {i : ℕ} {d : Docket} {old : List ℕ} {rs : List Reply} {e : Docket} {new : List ℕ}
    (t : RecordsTaken k f i d old rs e new) → Ran any d (run_of t) e
records_ran (ended l) = refl
records_ran {k = k} {d = d} {e = e} (next {m = m} {old = old} {mid = mid} {r = r} l t rest) =
    ran_on any (call_with k t.content old mid r.answer) (run_of rest) d m e (record_ran k t.content d m old mid r.answer t.takes) (records_ran rest)

-- a run has no more events than there are records
record_short : (k : Calculus) (x : Result Record Refusal) (old new : List ℕ) (a : Result ℕ Refusal) → length (call_with k x old new a) ≤ 1
record_short k (Ok x) old new a = omega arith
record_short k (Err f) old new a = omega arith

run_short : {k : Calculus} {f : List ℕ} {i : ℕ} {d : Docket} {old : List ℕ} {rs : List Reply} {e : Docket} {new : List ℕ}
    (t : RecordsTaken k f i d old rs e new) → length (run_of t) ≤ length rs
run_short (ended l) = omega arith
run_short {k = k} (next {old = old} {mid = mid} {r = r} l t rest) =
    omega (arith, run_short rest, record_short k t.content old mid r.answer, length-append (call_with k t.content old mid r.answer) (run_of rest))

-- an event that is no call, or one that was answered with a number
abbrev pub WasTaken : Event → Type 0
WasTaken (called c a) = IsOk a
WasTaken (asked q) = Unit {0}

-- where each record is a call that was taken, each reply is a number
run_ok : {k : Calculus} {f : List ℕ} {i : ℕ} {d : Docket} {old : List ℕ} {rs : List Reply} {e : Docket} {new : List ℕ}
    (t : RecordsTaken k f i d old rs e new) → length rs ≤ length (run_of t) → Each WasTaken (run_of t) → All (λ (r : Reply). IsOk r.answer) rs
run_ok (ended l) h each = All-nil (λ (r : Reply). IsOk r.answer)
run_ok {k = k} (next {old = old} {mid = mid} {r = r} {rs = rs} l t rest) h each = go t.content (run_ok rest) h each
  where
    go : (x : Result Record Refusal) → (length rs ≤ length (run_of rest) → Each WasTaken (run_of rest) → All (λ (q : Reply). IsOk q.answer) rs) → length (r ∷ rs) ≤ length (call_with k x old mid r.answer ++ run_of rest)
        → Each WasTaken (call_with k x old mid r.answer ++ run_of rest) → All (λ (q : Reply). IsOk q.answer) (r ∷ rs)
    go (Ok x) more h each = All-cons (λ (q : Reply). IsOk q.answer) r rs each.0 (more (omega arith) each.1)
    go (Err f) more h each = absurd (omega (arith, run_short rest))

-- nothing else happened, if there is room for nothing else
no_others : (os : List Event) → length os ≤ 0 → Each WasTaken os
no_others [] h = tt
no_others (x ∷ xs) h = absurd (omega arith)

taken_ok : (e : Docket) (x : Event) → Taken house e x → WasTaken x
taken_ok e x t = subst WasTaken (sym t.answered) refl

pub filed_trees_are_taken : FiledTreesAreTaken
filed_trees_are_taken d reached sealed u closed room f i old new rs e taken o =
    let all = house_trees_are_taken d reached sealed u closed room (run_of taken) o e (records_ran taken) in
    let each = each_map (Taken house e) WasTaken (taken_ok e) o.filings all.0 in
    record {
      taken = all.0;
      root_stands = all.1;
      all_ok = λ same.
          let many = filed_nodes house o.in_order in
          let long = length_interleaved o.between in
          let short = run_short taken in
          run_ok taken (omega arith) (each_interleaved WasTaken o.between each (no_others o.others (omega arith)));
    }
