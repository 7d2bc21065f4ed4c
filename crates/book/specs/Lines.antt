-- Lines, and the earlier lines that they refer to.
use Rattle.std.specs.Prelude.{◌≡◌, ℕ, ◌<◌, min, Bool, true, cond, is_none, List, [], ◌∷◌, length, replicate, Some, Option, ◌==◌, slice_get, slice_index_or}
use Rattle.bits.specs.Bits.{has}
use Rattle.register.specs.References.{all_below}
use Rattle.labels.specs.Least.{least}
use Rattle.labels.specs.Labels.{outside}
use Rattle.logic.specs.Theories.{Theory}
use Rattle.calculus.specs.Calculi.{Calculus}
use Rattle.book.specs.declared.line.Cited.{Cited}
use Rattle.book.specs.declared.line.Cited.TheVariants.{Nothing, One, Two}
use Rattle.book.specs.declared.line.Line.{Line}

abbrev pub cited : Cited → List ℕ
cited Nothing = []
cited (One m) = m ∷ []
cited (Two m n) = m ∷ n ∷ []

-- the lines that a line cites
abbrev pub cited_lines : Line → List ℕ
cited_lines l = cited l.step.cited

-- the first of m and n, as many as a rule cites
abbrev pub citing : ℕ → ℕ → ℕ → Cited
citing count m n = cond (count == 0) Nothing (cond (count == 1) (One m) (Two m n))

-- a line with an empty label, where there is none
abbrev pub blank_line : Line
blank_line =
    record { step = record { rule = 0; on = record { p = 0; q = 0; s = 0 }; cited = Nothing }; label = replicate 16 0 }

-- the label of line k; the empty one if there is no such line
abbrev pub label_of : List Line → ℕ → List ℕ
label_of ls k = (slice_index_or ls k blank_line).label

-- A LINE IS LICENSED, as it is kept, among the lines ls: by the rules k its step applies to its
-- label, it cites as many lines as its rule, two at most, these stand, and the label of each lies
-- within the conclusion of its place.
pub record Licensed (k : Calculus) (t : Theory) (ls : List Line) (l : Line) : Type 0 where
  pub applies : k.applies l.step.rule t l.step.on (has l.label) ≡ true
  pub cites : length (cited_lines l) ≡ min 2 (k.cites l.step.rule)
  pub stand : all_below (cited_lines l) (length ls) ≡ true
  pub within : (i m : ℕ) → slice_get (cited_lines l) i ≡ Some m → (c : ℕ) → c < 1024
      → has (label_of ls m) c ≡ true
      → k.concludes l.step.rule t l.step.on (has l.label) i c ≡ true

-- whether row y lies within row x
abbrev pub lies_within : List ℕ → List ℕ → Bool
lies_within y x = is_none (outside y x)

-- the first line whose label lies within row x
abbrev pub first_line_within : List Line → List ℕ → Option ℕ
first_line_within ls x = least (length ls) (λ k. lies_within (label_of ls k) x)
