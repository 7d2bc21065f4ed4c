-- The question for a conclusion.
use Rattle.std.specs.Prelude.{◌≡◌, ℕ, ◌+◌, ◌/◌, ◌≤◌, not, List, [], ◌∷◌, ◌++◌, length, take, drop, Some, None, Ok, Err, Option, Result, nat_le, nat_lt}
use Rattle.refusals.specs.declared.Refusal.{Refusal}
use Rattle.refusals.specs.Table.{returned}
use Rattle.refusals.specs.Checks.{when, with, first}
use Rattle.file_bytes.specs.Bytes.{numbers}
use Rattle.bits.specs.Bits.{has}
use Rattle.labels.specs.Labels.{Row, row, is_cut, absent_at, falling_at}
use Rattle.calculus.specs.Calculi.{Calculus}
use Rattle.book.specs.Drafts.{principal_checks}
use Rattle.vocabulary.specs.Vocabularies.{theory}
use Rattle.docket.specs.declared.Docket.{Docket}
use Rattle.docket.specs.declared.conclusion.Inquiry.{Inquiry}
use Rattle.docket.specs.Phases.{is_unsealed}
use Rattle.docket.specs.Dockets.{count}

-- the members and the row of the label that is asked about
abbrev pub asked_members : Inquiry → List ℕ
asked_members f = numbers f.members.now

abbrev pub asked_label : Inquiry → List ℕ
asked_label f = row (asked_members f)

-- what is checked first, with memory of so many words
abbrev pub early_checks : Calculus → Docket → Inquiry → ℕ → List (Option (ℕ × ℕ))
early_checks k d f words =
    when (is_unsealed d.phase) (2, 0)
    ∷ when (not (k.has f.rule)) (3, 0)
    ∷ when (nat_le (k.cites f.rule) f.index) (3, 4)
    ∷ when (is_cut f.members.now) (3, length f.members.now / 2 + 5)
    ∷ when (nat_lt words 16) (3, 5 + length f.members.now / 2)
    ∷ principal_checks (count d) f.on

abbrev pub Inquired : Calculus → Docket → Inquiry → ℕ → Result ℕ Refusal → Type 0
Inquired k d f words (Ok i) = (first (early_checks k d f words) ≡ None) × (i ≡ f.index) × (16 ≤ words)
Inquired k d f words (Err x) = first (early_checks k d f words) ≡ Some (returned x)

-- all that is checked, in this order
abbrev pub conclusion_checks : Calculus → Docket → Inquiry → ℕ → List (Option (ℕ × ℕ))
conclusion_checks k d f words =
    early_checks k d f words
    ++ (with (λ i. (4, i + 5)) (absent_at (count d) (asked_members f))
    ∷ with (λ i. (6, i + 5)) (falling_at (asked_members f))
    ∷ when (not (k.applies f.rule (theory d.vocabulary) f.on (has (asked_label f)))) (8, f.rule) ∷ [])

-- The memory becomes what the answer says: in its first sixteen words the bit of a concept is set
-- exactly if it is in the conclusion, and later words are as they were. A refusal leaves all of it
-- as it was.
abbrev pub Concluded : Calculus → Docket → Inquiry → List ℕ → Result (Unit {0}) Refusal → List ℕ
    → Type 0
Concluded k d f old (Ok u) new = (first (conclusion_checks k d f (length old)) ≡ None)
    × Row (take 16 new) (k.concludes f.rule (theory d.vocabulary) f.on (has (asked_label f)) f.index) × (drop 16 new ≡ drop 16 old)
Concluded k d f old (Err x) new =
    (first (conclusion_checks k d f (length old)) ≡ Some (returned x)) × (new ≡ old)
