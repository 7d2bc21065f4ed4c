-- How replies are printed.
use Rattle.std.specs.Prelude.{ℕ, List, ◌++◌, Ok, Err, Result, codes}
use Rattle.std.specs.Fmt.{decimal}
use Rattle.refusals.specs.declared.Refusal.{Refusal}
use Rattle.refusals.specs.Table.{returned}
use Rattle.intake.specs.declared.Reply.{Reply}

-- `ok` and the new entry's number, or `refused` with number and place
abbrev pub answer_text : Result ℕ Refusal → List ℕ
answer_text (Ok i) = codes " ok " ++ decimal i
answer_text (Err x) =
    codes " refused " ++ (decimal (returned x).0 ++ (codes " " ++ decimal (returned x).1))

-- the kind of the record, and the answer
abbrev pub reply_text : Reply → List ℕ
reply_text r = decimal r.kind ++ answer_text r.answer
