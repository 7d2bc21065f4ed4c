-- What a program prints of a dossier, and of a failure.
use Rattle.std.specs.Prelude.{ℕ, ◌+◌, List, [], ◌∷◌, ◌++◌, codes, nat_lt, if◌then◌else◌, Some, None, Option}
use Rattle.std.specs.Fmt.{decimal}
use Rattle.intake.specs.declared.Reply.{Reply}
use Rattle.intake.specs.Printing.{reply_text}
use Rattle.console.specs.declared.failure.Failure.{Failure}
use Rattle.console.specs.declared.failure.Failure.TheVariants.{Capacities, Replies, Memory, Io, Notices}

-- a line for a reply, with the index of its record
abbrev pub reply_line : ℕ → Reply → List ℕ
reply_line index r = decimal index ++ (codes " " ++ (reply_text r ++ codes "\n"))

-- a line for each reply, where `before` records stand before them; indexes count from 1
abbrev pub reply_lines : ℕ → List Reply → List ℕ
reply_lines before [] = []
reply_lines before (r ∷ rs) = reply_line (before + 1) r ++ reply_lines (before + 1) rs

-- the last line: how many claims are open, empty and inhabited
abbrev pub last_line : ℕ × ℕ × ℕ → List ℕ
last_line t =
    codes "end " ++ (decimal t.0 ++ (codes " " ++ (decimal t.1 ++ (codes " " ++ (decimal t.2 ++ codes "\n")))))

-- the whole of it
abbrev pub report_text : List Reply → ℕ × ℕ × ℕ → List ℕ
report_text rs tally = reply_lines 0 rs ++ last_line tally

-- what is said of a file that has as many bytes as the limit; of a shorter one, nothing
abbrev pub notice_text : (limit length : ℕ) → List ℕ
notice_text limit n =
    if nat_lt n limit then [] else codes "the limit of "
    ++ (decimal limit ++ codes " bytes is reached; what may lie behind them was not looked at\n")

-- why there is no report; how an error of the system is worded, `std` does not say
abbrev pub failure_text : Failure → Option (List ℕ)
failure_text Capacities = Some (codes "no docket of these capacities")
failure_text Replies = Some (codes "more records than replies")
failure_text Memory = Some (codes "out of memory")
failure_text (Io e) = None
failure_text (Notices e) = None
