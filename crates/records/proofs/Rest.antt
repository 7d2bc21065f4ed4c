-- What a file has at a place is told from the bytes that are left there.
use Rattle.std.proofs.Common.{◌≡◌, ℕ, ◌+◌, ◌-◌, ◌≤◌, List, length, get_or, take, drop, sym, ap, ◌∙◌, length-drop, Option, Some, None, ok_or, MatchOption, refl, arith}
use Rattle.std.proofs.lemmas.List.{get_or-drop, drop-drop}
use Rattle.file_bytes.specs.Bytes.{word, part}
use Rattle.records.specs.declared.record.Record.{Record}
use Rattle.records.specs.declared.record.Record.TheVariants.{Inclusion, Transitivity, Concept, Pair, Axiom, Seal, Line, Claim, CloseEmpty, CloseInhabited}
use Rattle.records.specs.Records.{kind_at, size_at, end_of, marks_at, Whole, LiesAt, Content}
use Rattle.refusals.specs.declared.Refusal.TheVariants.{Malformed}

rest_word : (f : List ℕ) (i k : ℕ) → word (drop i f) k ≡ word f (i + k)
rest_word f i k =
    let high : i + (k + 1) ≡ i + k + 1 = omega arith in
    omega (arith, get_or-drop i f k 0, get_or-drop i f (k + 1) 0, ap (λ n. get_or f n 0) high)

-- Files f and g have the same bytes left, f from i on and g from j on. So at j stands in g what stands at i in f.
module _ (f g : List ℕ) (i j : ℕ) (inside_f : i ≤ length f) (inside_g : j ≤ length g) (same : drop i f ≡ drop j g) where
  same_word : (k : ℕ) → word g (j + k) ≡ word f (i + k)
  same_word k = sym (rest_word g j k) ∙ ap (λ rest. word rest k) (sym same) ∙ rest_word f i k

  same_size : size_at g j ≡ size_at f i
  same_size =
      let at_i : i + 0 ≡ i = omega arith in
      let at_j : j + 0 ≡ j = omega arith in
      ap (word g) (sym at_j) ∙ same_word 0 ∙ ap (word f) at_i

  same_length : length g - j ≡ length f - i
  same_length = sym (length-drop j g) ∙ ap length (sym same) ∙ length-drop i f

  same_whole : Whole f i → Whole g j
  same_whole w = omega (arith, same_size, same_length)

  pub same_kind : kind_at g j ≡ kind_at f i
  same_kind = grind (arith, same_word 2, same_length)

  same_marks : marks_at g j ≡ marks_at f i
  same_marks = omega (arith, same_size, same_word 10)

  same_part : (k n : ℕ) → part f (i + k) n ≡ part g (j + k) n
  same_part k n = ap (take n) (sym (drop-drop k i f) ∙ ap (drop k) same ∙ drop-drop k j g)

  same_edges : (m n : ℕ) → part f (i + 12 + m) n ≡ part g (j + 12 + m) n
  same_edges m n =
      let at_i : i + 12 + m ≡ i + (12 + m) = omega arith in
      let at_j : j + (12 + m) ≡ j + 12 + m = omega arith in
      ap (λ k. part f k n) at_i ∙ same_part (12 + m) n ∙ ap (λ k. part g k n) at_j

  pub same_stands : (x : Record) → LiesAt f i x → LiesAt g j x
  same_stands (Inclusion body) (w, kind, size, b) = (same_whole w, same_kind ∙ kind, same_size ∙ size, b ∙ same_part 4 4)
  same_stands (Transitivity body) (w, kind, size, b) = (same_whole w, same_kind ∙ kind, same_size ∙ size, b ∙ same_part 4 2)
  same_stands (Concept body) (w, kind, size, b) = (same_whole w, same_kind ∙ kind, same_size ∙ size, b ∙ same_part 4 6)
  same_stands (Pair body) (w, kind, size, b) = (same_whole w, same_kind ∙ kind, same_size ∙ size, b ∙ same_part 4 4)
  same_stands (Axiom body) (w, kind, size, b) = (same_whole w, same_kind ∙ kind, same_size ∙ size, b ∙ same_part 4 2)
  same_stands Seal (w, kind, size) = (same_whole w, same_kind ∙ kind, same_size ∙ size)
  same_stands (Line body members) (w, kind, few, even, b, m) =
      (same_whole w, same_kind ∙ kind, rw same_size few, rw same_size even, b ∙ same_part 4 12, rw same_size (m ∙ same_part 16 _))
  same_stands (Claim members) (w, kind, even, m) = (same_whole w, same_kind ∙ kind, rw same_size even, rw same_size (m ∙ same_part 4 _))
  same_stands (CloseEmpty body) (w, kind, size, b) = (same_whole w, same_kind ∙ kind, same_size ∙ size, b ∙ same_part 4 4)
  same_stands (CloseInhabited body marks edges) (w, kind, few, even, b, m, e) = (
    same_whole w,
    same_kind ∙ kind,
    rw same_size few,
    rw same_size even,
    b ∙ same_part 4 8,
    rw same_marks (m ∙ same_part 12 _),
    rw (same_marks, same_size) (e ∙ same_edges _ _),
  )

  pub same_end : end_of g j + i ≡ end_of f i + j
  same_end = omega (arith, same_size, same_length)

-- the record that stands at the beginning of the rest, or that none can, is what the file has there
pub rest_content : (f rest : List ℕ) (i : ℕ) → i ≤ length f → rest ≡ drop i f → (r : Option Record) → MatchOption r ((x : Record) → LiesAt rest 0 x → ⊥) (LiesAt rest 0)
    → Content f i (ok_or r (Malformed i))
rest_content f rest i h is None none = (refl, λ x s. none x (same_stands f rest i 0 h (omega arith) (sym is) x s))
rest_content f rest i h is (Some x) s = same_stands rest f 0 i (omega arith) h is x s
