-- From the docket's answer to what was printed, and on to how a program ends.
use Rattle.std.proofs.Common.{◌≡◌, ◌≢◌, ℕ, ◌*◌, ◌≤◌, List, [], ◌++◌, length, drop, take-append-drop, Some, None, Option, Ok, Err, Result, IsErrAnd, refl, sym, ap, subst, ◌∙◌, inr, arith}
use Rattle.std.proofs.lemmas.Option.{none-some}
use Rattle.std.specs.Io.KnownBytes.{Consumes}
use Rattle.refusals.specs.Checks.{first}
use Rattle.docket.specs.Dockets.{opening_checks}
use Rattle.records.specs.Files.{HasRecords}
use Rattle.intake.specs.declared.Reply.{Reply}
use Rattle.console.specs.declared.failure.Failure.{Failure}
use Rattle.console.specs.declared.failure.Failure.TheVariants.{Capacities, Replies, Memory, Io, Notices}
use Rattle.console.specs.Answers.{Replied}
use Rattle.console.specs.Inputs.{IsFirst}
use Rattle.console.specs.Outputs.{Printed}
use Rattle.console.specs.Reports.{report_text, notice_text}
use Rattle.console.specs.Processing.{IsReport, Processed}
use Rattle.console.specs.Programs.{Answered, Ended, streams}
use Rattle.console.proofs.Reading.{read_none}
use Rattle.console.proofs.Writing.{keeps_same, error_is}

pub report_of : (file : List ℕ) (concepts lines : ℕ) (old new : List ℕ) (rs : List Reply) (tally : ℕ × ℕ × ℕ)
    → Replied file concepts lines old new rs tally → IsReport file concepts lines (length old) (report_text rs tally)
report_of file concepts lines old new rs tally replied =
    record { rows = old; rows_after = new; replies = rs; tally = tally; words_lent = refl; replied = replied; is_text = refl }

pub processed : (limit : ℕ) (file : List ℕ) (concepts lines places : ℕ) (old new : List ℕ) (rs : List Reply) (tally : ℕ × ℕ × ℕ)
    (before after notes notes_after : Option (List ℕ)) (r : Result (Unit {0}) Failure)
    → Replied file concepts lines old new rs tally
    → Printed (report_text rs tally) (notice_text limit (length file)) before after notes notes_after r
    → Processed limit file concepts lines (length old) places before after notes notes_after r
processed limit file concepts lines places old new rs tally before after notes notes_after (Ok u) replied (p, q) =
    (report_text rs tally, report_of file concepts lines old new rs tally replied, p, q)
processed limit file concepts lines places old new rs tally before after notes notes_after (Err Memory) replied p = absurd p
processed limit file concepts lines places old new rs tally before after notes notes_after (Err (Io e)) replied (p, q) =
    (report_text rs tally, report_of file concepts lines old new rs tally replied, p, q)
processed limit file concepts lines places old new rs tally before after notes notes_after (Err (Notices e)) replied (p, q) =
    (report_text rs tally, report_of file concepts lines old new rs tally replied, p, q)
processed limit file concepts lines places old new rs tally before after notes notes_after (Err Capacities) replied p = absurd p
processed limit file concepts lines places old new rs tally before after notes notes_after (Err Replies) replied p = absurd p

-- what is printed needs no heap
pub heapless : (text notice : List ℕ) (before after notes notes_after : Option (List ℕ)) (r : Result (Unit {0}) Failure)
    → Printed text notice before after notes notes_after r → r ≢ Err Memory
heapless text notice before after notes notes_after r p e = subst (λ q. Printed text notice before after notes notes_after q) e p

-- the first bytes are taken from the input
pub first_consumed : (limit : ℕ) (input rest : Option (List ℕ)) (file : List ℕ) → IsFirst limit input rest file → Consumes input rest file
first_consumed limit None rest file p = tt
first_consumed limit (Some xs) rest file (p, q) =
    let R : Option (List ℕ) → Type 0 = λ o. Consumes (Some xs) o file in
    subst R (sym q) (sym (ap (λ l. l ++ drop limit xs) p ∙ take-append-drop limit xs))

-- a docket of these capacities opens, and there is a place for every reply
pub ended : (limit concepts lines : ℕ) (c l w places : ℕ) (file : List ℕ) (input rest before after notes notes_after : Option (List ℕ))
    (r : Result (Unit {0}) Failure)
    → c ≡ concepts → l ≡ lines → w ≡ 4 * concepts
    → first (opening_checks concepts lines concepts lines) ≡ None
    → ((n : ℕ) → HasRecords file n → n ≤ places)
    → length file ≤ limit → IsFirst limit input rest file
    → Processed limit file c l w places before after notes notes_after r
    → Ended limit concepts lines (streams input before notes) (streams rest after notes_after) r
ended limit concepts lines c l w places file input rest before after notes notes_after r same_c same_l same_w opens fits within read p =
    let P : ℕ → ℕ → ℕ → Type 0 = λ i j k. Processed limit file i j k places before after notes notes_after r in
    cases r (subst (P concepts lines) same_w (subst (λ j. P concepts j w) same_l (subst (λ i. P i l w) same_c p)))
  where
    answered : (text : List ℕ) → IsReport file concepts lines (4 * concepts) text
        → Answered limit concepts lines (streams input before notes) (streams rest after notes_after)
    answered text h = record { file = file; text = text; within = within; read = read; report = h }

    cases : (r : Result (Unit {0}) Failure) → Processed limit file concepts lines (4 * concepts) places before after notes notes_after r
        → Ended limit concepts lines (streams input before notes) (streams rest after notes_after) r
    cases (Ok u) (text, h, p, q) = (answered text h, p, q)
    cases (Err (Io e)) (text, h, p, q) = inr (answered text h, p, q)
    cases (Err (Notices e)) (text, h, p, q) = (answered text h, p, q)
    cases (Err Memory) (p, q) = (file, within, (first_consumed limit input rest file read, p, q))
    cases (Err Capacities) ((x, h), _, _) = absurd (none-some x (sym opens ∙ h))
    cases (Err Replies) ((n, h, few), _, _) = let enough : n ≤ places = fits n h in absurd (omega (arith, enough, few))

-- memory lacks before anything is printed
pub no_memory : (limit concepts lines words places : ℕ) (file : List ℕ) (before notes : Option (List ℕ)) (r : Result (Unit {0}) Failure)
    → IsErrAnd r (λ f. f ≡ Memory) → Processed limit file concepts lines words places before before notes notes r
no_memory limit concepts lines words places file before notes r h =
    error_is (Processed limit file concepts lines words places before before notes notes) r Memory h (keeps_same before, keeps_same notes)

-- memory lacks before anything is read
pub nothing_read : (limit concepts lines : ℕ) (input before notes : Option (List ℕ)) (r : Result (Unit {0}) Failure)
    → IsErrAnd r (λ f. f ≡ Memory) → Ended limit concepts lines (streams input before notes) (streams input before notes) r
nothing_read limit concepts lines input before notes r h =
    error_is (Ended limit concepts lines (streams input before notes) (streams input before notes)) r Memory h
    ([], omega arith, (read_none input, keeps_same before, keeps_same notes))
