-- How a dossier is answered, and its report printed.
use Rattle.std.specs.Prelude.{◌≡◌, ℕ, ◌<◌, List, length, Some, Ok, Err, Option, Result}
use Rattle.std.specs.Io.KnownBytes.{Keeps, Appends}
use Rattle.refusals.specs.Checks.{first}
use Rattle.docket.specs.Dockets.{opening_checks}
use Rattle.records.specs.Files.{HasRecords}
use Rattle.intake.specs.declared.Reply.{Reply}
use Rattle.console.specs.declared.failure.Failure.{Failure}
use Rattle.console.specs.declared.failure.Failure.TheVariants.{Capacities, Replies, Memory, Io, Notices}
use Rattle.console.specs.Answers.{Replied}
use Rattle.console.specs.Outputs.{AppendsFront}
use Rattle.console.specs.Reports.{report_text, notice_text}

-- The text is the report of a new docket with the ten rules, with room for so many concepts and
-- lines, to which working rows of so many words are lent.
pub record IsReport (file : List ℕ) (concepts lines words : ℕ) (text : List ℕ) : Type 0 where
  pub rows : List ℕ
  pub rows_after : List ℕ
  pub replies : List Reply
  pub tally : ℕ × ℕ × ℕ
  pub words_lent : length rows ≡ words
  pub replied : Replied file concepts lines rows rows_after replies tally
  pub is_text : text ≡ report_text replies tally

-- With places for so many concepts, lines, working words and replies: the report is printed; and
-- where the file is as long as the limit, the notice is. Where the report is not written, a
-- beginning of it is, and nothing of the notice; where the notice is not written, the whole report
-- is, and a beginning of the notice; where memory lacks or no docket was asked, nothing is.
abbrev pub Processed : (limit : ℕ) (file : List ℕ) (concepts lines words places : ℕ)
    (before after notes notes_after : Option (List ℕ)) → Result (Unit {0}) Failure → Type 0
Processed limit file concepts lines words places before after notes notes_after (Ok u) =
    (text : List ℕ) × IsReport file concepts lines words text
    × Appends before after text × Appends notes notes_after (notice_text limit (length file))
Processed limit file concepts lines words places before after notes notes_after (Err (Io e)) =
    (text : List ℕ) × IsReport file concepts lines words text
    × AppendsFront before after text × Keeps notes notes_after
Processed limit file concepts lines words places before after notes notes_after (Err (Notices e)) =
    (text : List ℕ) × IsReport file concepts lines words text
    × Appends before after text × AppendsFront notes notes_after (notice_text limit (length file))
Processed limit file concepts lines words places before after notes notes_after (Err Memory) =
    Keeps before after × Keeps notes notes_after
Processed limit file concepts lines words places before after notes notes_after (Err Capacities) =
    ((x : ℕ × ℕ) × (first (opening_checks concepts lines concepts lines) ≡ Some x))
    × Keeps before after × Keeps notes notes_after
Processed limit file concepts lines words places before after notes notes_after (Err Replies) =
    ((n : ℕ) × HasRecords file n × (places < n)) × Keeps before after × Keeps notes notes_after
