-- A reply more, and what is left of the file.
use Rattle.std.proofs.Common.{◌≡◌, ℕ, ◌+◌, ◌<◌, ◌≤◌, List, [], ◌∷◌, ◌++◌, length, take, drop, set, Some, Ok, Err, Result, sym, ap, ◌∙◌, subst, append_assoc, append-nil, arith}
use Rattle.std.proofs.lemmas.List.{take_more_set, drop-set-lt, drop-drop}
use Rattle.refusals.specs.declared.Refusal.{Refusal}
use Rattle.records.specs.declared.reader.Reader.{Reader}
use Rattle.records.specs.declared.record.Frame.{Frame}
use Rattle.records.specs.declared.record.Record.{Record}
use Rattle.records.specs.declared.record.Record.TheVariants.{Inclusion, Transitivity, Concept, Pair, Axiom, Seal, Line, Claim, CloseEmpty, CloseInhabited}
use Rattle.records.specs.Records.{end_of, Next}
use Rattle.records.proofs.Offsets.{RecordsBefore, lies_more, passed_more}
use Rattle.docket.specs.declared.Docket.{Docket}
use Rattle.calculus.specs.Calculi.{Calculus}
use Rattle.docket.specs.Runs.{Banks, Lends, LendsCall, Reached}
use Rattle.docket.proofs.Running.{stays}
use Rattle.intake.specs.declared.Reply.{Reply}
use Rattle.intake.specs.Taking.{call_of, TakesContent, Takes, TakesAt, RecordsTaken, ended, next}
use Rattle.records.specs.Files.{HasRecords}

-- there is a place for the reply to a record that is left
pub place_left : (f : List ℕ) (n i total : ℕ) → RecordsBefore f n i → i < length f → HasRecords f total → n < total
place_left f n i total passed l has =
    let (all, lie, count) = has in
    let (rest, left, before) = passed all lie in
    let more = lies_more f i rest l left in
    let e = ap length more.2 in
    omega (arith, before, count)

-- what the records up to i have done: whatever the rest replies stands after the replies so far
abbrev pub TakenTo : Calculus → List ℕ → ℕ → Docket → List ℕ → List Reply → Docket → List ℕ → Type 0
TakenTo k f i d old rs m mid = (ss : List Reply) (e : Docket) (new : List ℕ) → RecordsTaken k f i m mid ss e new → RecordsTaken k f 0 d old (rs ++ ss) e new

taken_more : (k : Calculus) (f : List ℕ) (i n : ℕ) (d m m' : Docket) (old mid mid' : List ℕ) (rs : List Reply) (r : Reply) → i < length f → n < length rs
    → TakesAt k f i m mid r m' mid' → TakenTo k f i d old (take n rs) m mid → TakenTo k f (end_of f i) d old (take (n + 1) (set rs n r)) m' mid'
taken_more k f i n d m m' old mid mid' rs r l h takes before ss e new rest =
    subst (λ (xs : List Reply). RecordsTaken k f 0 d old xs e new) (sym (ap (λ (xs : List Reply). xs ++ ss) (take_more_set rs n r h) ∙ append_assoc (take n rs) (r ∷ []) ss))
    (before (r ∷ ss) e new (next l takes rest))

pub taken_all : (k : Calculus) (f : List ℕ) (i : ℕ) (d m : Docket) (old mid : List ℕ) (rs : List Reply) → length f ≤ i → TakenTo k f i d old rs m mid → RecordsTaken k f 0 d old rs m mid
taken_all k f i d m old mid rs l before = subst (λ (xs : List Reply). RecordsTaken k f 0 d old xs m mid) (append-nil rs) (before [] m mid (ended l))

-- the places after are as they were
untouched_more : (rs old : List Reply) (n : ℕ) (r : Reply) → drop n rs ≡ drop n old → drop (n + 1) (set rs n r) ≡ drop (n + 1) old
untouched_more rs old n r e = drop-set-lt (n + 1) rs n r (omega arith) ∙ sym (drop-drop 1 n rs) ∙ ap (drop 1) e ∙ drop-drop 1 n old

-- Reader r of file f has given n records, which took docket d to m and the working rows from old to mid; the replies to them
-- are written to the places rs, and ss is what the places have now.
pub record Handed (k : Calculus) (f : List ℕ) (r : Reader) (n : ℕ) (d : Docket) (old : List ℕ) (rs : List Reply) (m : Docket) (mid : List ℕ) (ss : List Reply) : Type 0 where
  pub file : r.file.now ≡ f
  pub passed : RecordsBefore f n r.at
  pub taken : TakenTo k f r.at d old (take n ss) m mid
  pub behind : drop n ss ≡ drop n rs

-- as long as it gives records, there is a place for the reply
pub handed_room : {k : Calculus} {f : List ℕ} {r s : Reader} {n total : ℕ} {d m : Docket} {old mid : List ℕ} {rs ss : List Reply} (frame : Frame)
    → Handed k f r n d old rs m mid ss → Next r s (Some frame) → HasRecords f total → total ≤ length ss → n < length ss
handed_room {f = f} {r = r} {n = n} {total = total} frame h gave has enough =
    let left = place_left f n r.at total h.passed (rw (sym h.file) gave.0) has in omega arith

-- one more is handed over
pub handed_more : {k : Calculus} {f : List ℕ} {r s : Reader} {n : ℕ} {d m e : Docket} {old mid new : List ℕ} {rs ss : List Reply} (frame : Frame) (a : Result ℕ Refusal)
    → Handed k f r n d old rs m mid ss → Next r s (Some frame) → n < length ss → Takes k frame m mid a e new
    → Handed k f s (n + 1) d old rs e new (set ss n (record { kind = frame.kind; answer = a }))
handed_more {k} {f} {r} {s} {n} {d} {m} {e} {old} {mid} {new} {rs} {ss} frame a h (below, offset, kind, content, after) room takes =
    let inside : r.at < length f = rw (sym h.file) below in
    let reply : Reply = record { kind = frame.kind; answer = a } in
    let there : TakesAt k f r.at m mid reply e new = record { content = frame.content; lies = rw (sym h.file) content; kind = rw (sym h.file) kind; takes = takes } in
    let end : s.at ≡ end_of f r.at = ap (λ (x : Reader). x.at) after ∙ ap (λ g. end_of g r.at) h.file in
    record {
      file = ap (λ (x : Reader). x.file.now) after ∙ h.file;
      passed = rw end (passed_more f n r.at inside h.passed);
      taken = rw end (taken_more k f r.at n d m e old mid new ss reply inside room there h.taken);
      behind = untouched_more ss rs n reply h.behind;
    }

-- the bank that is lent to a record's call is such a bank
lent : (b : Banks) (k : Calculus) → Lends b k → (old new : List ℕ) (x : Record) → LendsCall b (call_of k old new x)
lent b k lends old new (Inclusion body) = tt
lent b k lends old new (Transitivity body) = tt
lent b k lends old new (Concept body) = tt
lent b k lends old new (Pair body) = tt
lent b k lends old new (Axiom body) = tt
lent b k lends old new Seal = tt
lent b k lends old new (Line body members) = lends
lent b k lends old new (Claim members) = tt
lent b k lends old new (CloseEmpty body) = tt
lent b k lends old new (CloseInhabited body marks edges) = tt

-- a docket that was reached before records is reached after them
pub takes_reached : (b : Banks) (k : Calculus) → Lends b k → (x : Result Record Refusal) (d e : Docket) (old new : List ℕ) (a : Result ℕ Refusal)
    → TakesContent k x d old a e new → Reached b d → Reached b e
takes_reached b k lends (Err f) d e old new a h p = subst (Reached b) (sym h.1) p
takes_reached b k lends (Ok x) d e old new a h p = (stays h.0).reached b (lent b k lends old new x) p

pub taken_reached : (b : Banks) (k : Calculus) → Lends b k → (f : List ℕ) (i : ℕ) (d e : Docket) (old new : List ℕ) (rs : List Reply)
    → RecordsTaken k f i d old rs e new → Reached b d → Reached b e
taken_reached b k lends f i d e old new rs (ended l) p = p
taken_reached b k lends f i d e old new rs (next {m = m} {mid = mid} {r = r} l t rest) p =
    taken_reached b k lends f (end_of f i) m e mid new _ rest (takes_reached b k lends t.content d m old mid r.answer t.takes p)
