-- The lines of a report, one by one.
use Rattle.std.proofs.Common.{◌≡◌, ℕ, ◌+◌, ◌<◌, List, [], ◌∷◌, ◌++◌, length, take, drop, take-append-drop, get_or, sym, ap, ◌∙◌, append_assoc, append-nil, arith}
use Rattle.std.proofs.lemmas.List.{take_more, length-take-le}
use Rattle.intake.specs.declared.Reply.{Reply}
use Rattle.console.specs.Reports.{reply_line, reply_lines, last_line, report_text}

lines_append : (before : ℕ) (rs ss : List Reply) → reply_lines before (rs ++ ss) ≡ reply_lines before rs ++ reply_lines (before + length rs) ss
lines_append before [] ss = let e : before + 0 ≡ before = omega arith in ap (λ n. reply_lines n ss) (sym e)
lines_append before (r ∷ rs) ss =
    let e : before + 1 + length rs ≡ before + length (r ∷ rs) = omega arith in
    ap (λ text. reply_line (before + 1) r ++ text) (lines_append (before + 1) rs ss ∙ ap (λ n. reply_lines (before + 1) rs ++ reply_lines n ss) e)
    ∙ sym (append_assoc (reply_line (before + 1) r) (reply_lines (before + 1) rs) (reply_lines (before + length (r ∷ rs)) ss))

-- the first k replies' lines are a beginning of the report
abbrev pub rest_of_report : List Reply → ℕ × ℕ × ℕ → ℕ → List ℕ
rest_of_report rs tally k = reply_lines (0 + length (take k rs)) (drop k rs) ++ last_line tally

pub report_begins : (rs : List Reply) (tally : ℕ × ℕ × ℕ) (k : ℕ) → report_text rs tally ≡ reply_lines 0 (take k rs) ++ rest_of_report rs tally k
report_begins rs tally k =
    ap (λ ss. reply_lines 0 ss ++ last_line tally) (sym (take-append-drop k rs))
    ∙ ap (λ text. text ++ last_line tally) (lines_append 0 (take k rs) (drop k rs))
    ∙ append_assoc (reply_lines 0 (take k rs)) (reply_lines (0 + length (take k rs)) (drop k rs)) (last_line tally)

-- a reply more, after the first k
pub lines_more : (rs : List Reply) (k : ℕ) (d : Reply) → k < length rs
    → reply_lines 0 (take k rs) ++ reply_line (k + 1) (get_or rs k d) ≡ reply_lines 0 (take (k + 1) rs)
lines_more rs k d l =
    let e : 0 + length (take k rs) ≡ k = omega (arith, length-take-le k rs (omega arith)) in
    sym (
    ap (reply_lines 0) (take_more rs k d l)
    ∙ lines_append 0 (take k rs) (get_or rs k d ∷ [])
    ∙ ap (λ n. reply_lines 0 (take k rs) ++ reply_lines n (get_or rs k d ∷ [])) e
    ∙ ap (λ text. reply_lines 0 (take k rs) ++ text) (append-nil (reply_line (k + 1) (get_or rs k d)))
    )
