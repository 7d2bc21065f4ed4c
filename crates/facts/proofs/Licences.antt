-- What a licence says of a label, whatever it is for a case to satisfy one.
use Rattle.std.proofs.Common.{◌≡◌, ℕ, zero, suc, ◌<◌, ◌≤◌, Bool, true, ltb, List, [], ◌∷◌, length, get_or, arith}
use Rattle.std.proofs.lemmas.Bool.{and_parts, ltb-true}
use Rattle.std.proofs.lemmas.Option.{slice_get-get_or}
use Rattle.bits.specs.Bits.{has}
use Rattle.register.specs.References.{all_below}
use Rattle.logic.specs.Theories.{Theory}
use Rattle.calculus.specs.Calculi.{Calculus}
use Rattle.book.specs.declared.line.Line.{Line}
use Rattle.book.specs.Lines.{cited_lines, label_of, Licensed}

-- the labels of these lines have only numbers below n
abbrev pub LabelsBelow : ℕ → List Line → Type 0
LabelsBelow n ls = (k c : ℕ) → k < length ls → has (label_of ls k) c ≡ true → c < n

-- a number of a list that is all below n is below n
below_at : (ms : List ℕ) (n i : ℕ) → all_below ms n ≡ true → i < length ms → get_or ms i 0 < n
below_at [] n i h l = absurd (omega arith)
below_at (m ∷ ms) n zero h l = ltb-true m n (and_parts (ltb m n) (all_below ms n) h).0
below_at (m ∷ ms) n (suc i) h l = below_at ms n i (and_parts (ltb m n) (all_below ms n) h).1 (omega arith)

-- Sat X says that a case satisfies all of X. What satisfies a set satisfies every smaller one.
module _ (Sat : (ℕ → Bool) → Type 0) (smaller : (X Y : ℕ → Bool) → ((c : ℕ) → Y c ≡ true → X c ≡ true) → Sat X → Sat Y) where
  -- If no standing line's label is satisfied, and a case that satisfies the label of a step that applies always leads to one
  -- that satisfies one of its conclusions, then the label of a licensed line that cites standing lines isn't satisfied either.
  pub licensed_empty : (k : Calculus) (t : Theory) (ls : List Line) (l : Line)
      → k.cites l.step.rule ≤ 2
      → (k.applies l.step.rule t l.step.on (has l.label) ≡ true → Sat (has l.label)
      → (i : ℕ) × (i < k.cites l.step.rule) × Sat (k.concludes l.step.rule t l.step.on (has l.label) i))
      → LabelsBelow 1024 ls → ((n : ℕ) → n < length ls → Sat (has (label_of ls n)) → ⊥)
      → all_below (cited_lines l) (length ls) ≡ true → Licensed k t ls l → Sat (has l.label) → ⊥
  licensed_empty k t ls l few law short empty standing licensed s =
      let (i, here, sat) = law licensed.applies s in
      let m = get_or (cited_lines l) i 0 in
      let there : i < length (cited_lines l) = omega (arith, licensed.cites) in
      let stands : m < length ls = below_at (cited_lines l) (length ls) i standing there in
      let at = slice_get-get_or (cited_lines l) i 0 there in
      empty m stands (smaller _ (has (label_of ls m)) (λ c h. licensed.within i m at c (short m c stands h) h) sat)
