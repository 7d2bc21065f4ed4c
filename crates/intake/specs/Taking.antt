-- What a docket does with the records of a file.
use Rattle.std.specs.Prelude.{◌≡◌, ℕ, ◌<◌, ◌≤◌, List, [], ◌∷◌, length, take, drop, Ok, Err, Result}
use Rattle.refusals.specs.declared.Refusal.{Refusal}
use Rattle.refusals.specs.Table.{returned}
use Rattle.file_bytes.specs.Bytes.{field}
use Rattle.calculus.specs.Calculi.{Calculus}
use Rattle.docket.specs.declared.Docket.{Docket}
use Rattle.docket.specs.Calls.{Call, inclusion, transitivity, concept, pair, «axiom», seal, line, claim, close_empty, close_inhabited, Acts}
use Rattle.records.specs.declared.record.Record.{Record}
use Rattle.records.specs.declared.record.Record.TheVariants.{Inclusion, Transitivity, Concept, Pair, Axiom, Seal, Line, Claim, CloseEmpty, CloseInhabited}
use Rattle.records.specs.declared.record.Frame.{Frame}
use Rattle.records.specs.Records.{kind_at, end_of, Content}
use Rattle.records.specs.Files.{HasRecords}
use Rattle.intake.specs.declared.Reply.{Reply}

-- the call that a record stands for, by its fields, with the rules k and working rows that are old
-- before it and new after it
abbrev pub call_of : Calculus → (old new : List ℕ) → Record → Call
call_of k old new (Inclusion body) = inclusion (field body.now 0) (field body.now 1)
call_of k old new (Transitivity body) = transitivity (field body.now 0)
call_of k old new (Concept body) = concept (field body.now 0) (field body.now 1) (field body.now 2)
call_of k old new (Pair body) = pair (field body.now 0) (field body.now 1)
call_of k old new (Axiom body) = «axiom» (field body.now 0)
call_of k old new Seal = seal
call_of k old new (Line body members) = line k (record {
  rule = field body.now 0;
  on = record { p = field body.now 1; q = field body.now 2; s = field body.now 3 };
  m = field body.now 4;
  n = field body.now 5;
  members = members;
})
call_of k old new (Claim members) = claim members.now
call_of k old new (CloseEmpty body) = close_empty (field body.now 0) (field body.now 1)
call_of k old new (CloseInhabited body marks edges) = close_inhabited (field body.now 0)
    (record { size = field body.now 2; point = field body.now 1; mark_count = field body.now 3; marks = marks; edges = edges }) old new

-- what becomes of the working rows: a model's call says it, and every other leaves them as they
-- were
abbrev pub RowsAfter : Record → (old new : List ℕ) → Type 0
RowsAfter (CloseInhabited body marks edges) old new = Unit {0}
RowsAfter other old new = new ≡ old

-- docket d with rows old, given what lies in a file, answers and becomes e, with rows new; what is
-- malformed is refused and changes nothing
abbrev pub TakesContent : Calculus → Result Record Refusal → Docket → List ℕ → Result ℕ Refusal
    → Docket → List ℕ → Type 0
TakesContent k (Ok x) d old a e new = Acts (call_of k old new x) d a e × RowsAfter x old new
TakesContent k (Err f) d old a e new = (a ≡ Err f) × (e ≡ d) × (new ≡ old)

abbrev pub Takes : Calculus → Frame → Docket → List ℕ → Result ℕ Refusal → Docket → List ℕ → Type 0
Takes k frame d old a e new = TakesContent k frame.content d old a e new

-- the docket, given the record at offset i of file f, replies
pub record TakesAt (k : Calculus) (f : List ℕ) (i : ℕ) (d : Docket) (old : List ℕ) (r : Reply) (e : Docket) (new : List ℕ) : Type 0 where
  pub content : Result Record Refusal
  pub lies : Content f i content
  pub kind : r.kind ≡ kind_at f i
  pub takes : TakesContent k content d old r.answer e new

-- the records of f from offset i on, one after another, take docket d to e with these replies
pub data RecordsTaken (k : Calculus) (f : List ℕ) : ℕ → Docket → List ℕ → List Reply → Docket
    → List ℕ → Type 0 where
  ended : {i : ℕ} {d : Docket} {old : List ℕ} → length f ≤ i → RecordsTaken k f i d old [] d old
  next : {i : ℕ} {d m e : Docket} {old mid new : List ℕ} {r : Reply} {rs : List Reply}
      → i < length f → TakesAt k f i d old r m mid
      → RecordsTaken k f (end_of f i) m mid rs e new → RecordsTaken k f i d old (r ∷ rs) e new

-- Docket d with file f becomes e, its working rows go from old to new, and the memory for replies,
-- rs at first, becomes ss. The answer is the count of records: there is a reply to each, in order,
-- and the places after them are as they were. With too few places nothing changes.
abbrev pub FileTaken : Calculus → List ℕ → Docket → List ℕ → List Reply → Result ℕ Refusal → Docket
    → List ℕ → List Reply → Type 0
FileTaken k f d old rs (Ok n) e new ss =
    HasRecords f n × (n ≤ length rs) × RecordsTaken k f 0 d old (take n ss) e new
    × (drop n ss ≡ drop n rs)
FileTaken k f d old rs (Err x) e new ss =
    (returned x ≡ (3, 1)) × ((n : ℕ) × HasRecords f n × (length rs < n)) × (e ≡ d) × (new ≡ old)
    × (ss ≡ rs)
