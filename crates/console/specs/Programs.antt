-- What a program makes of its input, its output and its notices.
use Rattle.std.specs.Prelude.{ℕ, ◌*◌, ◌<◌, ◌≤◌, ◌⊎◌, List, length, Ok, Err, Option, Result}
use Rattle.std.specs.Io.KnownBytes.{Consumes, Keeps, Appends}
use Rattle.console.specs.declared.failure.Failure.{Failure}
use Rattle.console.specs.declared.failure.Failure.TheVariants.{Capacities, Replies, Memory, Io, Notices}
use Rattle.console.specs.Inputs.{IsFirst}
use Rattle.console.specs.Outputs.{AppendsFront}
use Rattle.console.specs.Processing.{IsReport}
use Rattle.console.specs.Reports.{notice_text}

-- the bytes that the input has left, and those that output and notices hold; where they are known
pub record Streams : Type 0 where
  pub input : Option (List ℕ)
  pub output : Option (List ℕ)
  pub notices : Option (List ℕ)

abbrev pub streams : (input output notices : Option (List ℕ)) → Streams
streams input output notices = record { input = input; output = output; notices = notices }

-- What was read, no more than the limit; and the docket's report of it, with four working words for
-- each concept.
pub record Answered (limit concepts lines : ℕ) (old new : Streams) : Type 0 where
  pub file : List ℕ
  pub text : List ℕ
  pub within : length file ≤ limit
  pub read : IsFirst limit old.input new.input file
  pub report : IsReport file concepts lines (4 * concepts) text

-- these bytes were taken from the input, and nothing is printed
abbrev pub NothingPrinted : List ℕ → (old new : Streams) → Type 0
NothingPrinted file old new =
    Consumes old.input new.input file × Keeps old.output new.output × Keeps old.notices new.notices

-- THE CONTRACT of a program with these limits. The report is printed; and where the file is as long
-- as the limit, the notice is. Where memory lacks, nothing is printed. Where a read fails, before
-- the limit, nothing is printed; where the report is not written, a beginning of it is, and nothing
-- of the notice. Where the notice is not written, the whole report is, and a beginning of the
-- notice. There is no other error.
abbrev pub Ended : (limit concepts lines : ℕ) → (old new : Streams)
    → Result (Unit {0}) Failure → Type 0
Ended limit concepts lines old new (Ok u) =
    (a : Answered limit concepts lines old new)
    × Appends old.output new.output a.text
    × Appends old.notices new.notices (notice_text limit (length a.file))
Ended limit concepts lines old new (Err Memory) =
    (file : List ℕ) × (length file ≤ limit) × NothingPrinted file old new
Ended limit concepts lines old new (Err (Io e)) =
    ((file : List ℕ) × (length file < limit) × NothingPrinted file old new)
    ⊎ ((a : Answered limit concepts lines old new)
    × AppendsFront old.output new.output a.text × Keeps old.notices new.notices)
Ended limit concepts lines old new (Err (Notices e)) =
    (a : Answered limit concepts lines old new)
    × Appends old.output new.output a.text
    × AppendsFront old.notices new.notices (notice_text limit (length a.file))
Ended limit concepts lines old new (Err x) = ⊥

-- what a program tells of its end: a notice that was not written is no failure, all else is as it is
abbrev pub status_of : Result (Unit {0}) Failure → Result (Unit {0}) Failure
status_of (Ok u) = Ok u
status_of (Err Capacities) = Err Capacities
status_of (Err Replies) = Err Replies
status_of (Err Memory) = Err Memory
status_of (Err (Io e)) = Err (Io e)
status_of (Err (Notices e)) = Ok tt
