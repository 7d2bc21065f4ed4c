-- A line as it is handed over, what speaks against it, and when it is licensed.
use Rattle.std.specs.Prelude.{◌≡◌, ℕ, ◌+◌, ◌/◌, ◌<◌, Bool, true, false, cond, not, ◌&&◌, ◌↔◌, List, [], ◌∷◌, ◌++◌, length, Some, None, Ok, Err, Option, Result, ◌==◌, nat_le, nat_lt}
use Rattle.refusals.specs.declared.Refusal.{Refusal}
use Rattle.refusals.specs.Table.{returned}
use Rattle.refusals.specs.Checks.{when, with, first}
use Rattle.bits.specs.Bits.{has}
use Rattle.file_bytes.specs.Bytes.{numbers}
use Rattle.labels.specs.Least.{least}
use Rattle.labels.specs.Labels.{row, is_cut, absent_at, falling_at}
use Rattle.logic.specs.Theories.{Theory}
use Rattle.calculus.specs.declared.rule.Principals.{Principals}
use Rattle.calculus.specs.Calculi.{Calculus}
use Rattle.book.specs.declared.filing.Draft.{Draft}
use Rattle.book.specs.declared.line.Line.{Line}
use Rattle.book.specs.Lines.{citing, label_of, Licensed}

-- the members of a draft's label
abbrev pub members : Draft → List ℕ
members f = numbers f.members.now

-- its label, as a row
abbrev pub label : Draft → List ℕ
label f = row (members f)

-- the line that a draft becomes
abbrev pub line_of : Calculus → Draft → Line
line_of k f =
    record { step = record { rule = f.rule; on = f.on; cited = citing (k.cites f.rule) f.m f.n }; label = label f }

-- the least concept of row y that fails the test
abbrev pub least_outside : List ℕ → (ℕ → Bool) → Option ℕ
least_outside y f = least 1024 (λ c. has y c && not (f c))

-- whether concept c is in conclusion i of the step at its own label
abbrev pub concluded : Calculus → Theory → Draft → ℕ → ℕ → Bool
concluded k t f i c = k.concludes f.rule t f.on (has (label f)) i c

-- the least concept of the first cited line that lies outside its conclusion
abbrev pub unfit : Calculus → Theory → List Line → Draft → Option ℕ
unfit k t ls f = first (
    cond (nat_lt 0 (k.cites f.rule)) (least_outside (label_of ls f.m) (concluded k t f 0)) None
    ∷ cond (nat_lt 1 (k.cites f.rule)) (least_outside (label_of ls f.n) (concluded k t f 1)) None ∷ [])

-- Filing a draft has four groups of checks, one after another: numbers in range, entries that
-- stand, room and order, and the licence. The fields of a draft have the positions 0 to 5, its
-- members those from 6 on.

-- the rule is in the bank, what it doesn't use is 0, and the last member has both of its bytes
abbrev pub range_checks : Calculus → Draft → List (Option (ℕ × ℕ))
range_checks k f =
    when (not (k.has f.rule)) (3, 0)
    ∷ when (nat_lt (k.cites f.rule) 1 && not (f.m == 0)) (3, 4)
    ∷ when (nat_lt (k.cites f.rule) 2 && not (f.n == 0)) (3, 5)
    ∷ when (is_cut f.members.now) (3, length f.members.now / 2 + 6) ∷ []

-- what a step's principals are asked, where so many concepts stand
abbrev pub principal_checks : ℕ → Principals → List (Option (ℕ × ℕ))
principal_checks count on =
    when (nat_le count on.p) (4, 1) ∷ when (nat_le count on.q) (4, 2)
    ∷ when (nat_le count on.s) (4, 3) ∷ []

-- what the draft names stands
abbrev pub absent_checks : Calculus → Theory → List Line → Draft → List (Option (ℕ × ℕ))
absent_checks k t ls f =
    principal_checks (length t.concepts) f.on
    ++ when (nat_lt 0 (k.cites f.rule) && nat_le (length ls) f.m) (4, 4)
    ∷ when (nat_lt 1 (k.cites f.rule) && nat_le (length ls) f.n) (4, 5)
    ∷ with (λ i. (4, i + 6)) (absent_at (length t.concepts) (members f)) ∷ []

-- the step applies, and each cited line's label lies within its conclusion
abbrev pub licence_checks : Calculus → Theory → List Line → Draft → List (Option (ℕ × ℕ))
licence_checks k t ls f =
    when (not (k.applies f.rule t f.on (has (label f)))) (8, f.rule)
    ∷ with (λ c. (9, c)) (unfit k t ls f) ∷ []

-- a line is free, where there is room for so many, and the label rises
abbrev pub late_checks : Calculus → Theory → List Line → ℕ → Draft → List (Option (ℕ × ℕ))
late_checks k t ls room f =
    when (nat_le room (length ls)) (5, room)
    ∷ with (λ i. (6, i + 6)) (falling_at (members f))
    ∷ licence_checks k t ls f

-- all of them, in this order
abbrev pub draft_checks : Calculus → Theory → List Line → ℕ → Draft → List (Option (ℕ × ℕ))
draft_checks k t ls room f = range_checks k f ++ (absent_checks k t ls f ++ late_checks k t ls room f)

-- ALL THAT FILING ASKS OF A DRAFT, where there is room for so many lines
pub record Admitted (k : Calculus) (t : Theory) (ls : List Line) (room : ℕ) (f : Draft) : Type 0 where
  pub known : k.has f.rule ≡ true
  pub first_unused : k.cites f.rule < 1 → f.m ≡ 0
  pub second_unused : k.cites f.rule < 2 → f.n ≡ 0
  pub whole : is_cut f.members.now ≡ false
  pub p_stands : f.on.p < length t.concepts
  pub q_stands : f.on.q < length t.concepts
  pub s_stands : f.on.s < length t.concepts
  pub first_stands : 0 < k.cites f.rule → f.m < length ls
  pub second_stands : 1 < k.cites f.rule → f.n < length ls
  pub members_stand : absent_at (length t.concepts) (members f) ≡ None
  pub free : length ls < room
  pub rising : falling_at (members f) ≡ None
  pub licensed : Licensed k t ls (line_of k f)

-- the checks of a draft all pass exactly if it is admitted
abbrev pub ChecksAreRight : Type 0
ChecksAreRight =
    (k : Calculus) (t : Theory) (ls : List Line) (room : ℕ) (f : Draft)
    → first (draft_checks k t ls room f) ≡ None ↔ Admitted k t ls room f

-- an admitted draft becomes its line; else the first check that refuses is returned
abbrev pub Checked : Calculus → Theory → List Line → ℕ → Draft → Result Line Refusal → Type 0
Checked k t ls room f (Ok l) = Admitted k t ls room f × (l ≡ line_of k f)
Checked k t ls room f (Err x) = first (draft_checks k t ls room f) ≡ Some (returned x)
