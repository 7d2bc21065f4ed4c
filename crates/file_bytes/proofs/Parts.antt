-- Fields of a part of a string of bytes.
use Rattle.std.proofs.Common.{◌≡◌, ℕ, ◌+◌, ◌*◌, ◌≤◌, List, get_or, drop, ap, ◌∙◌, arith}
use Rattle.std.proofs.lemmas.List.{get_or-take, get_or-drop}
use Rattle.file_bytes.specs.Bytes.{word, part, field}

-- a field of a part is a number of the whole
pub field_part : (f : List ℕ) (i n k : ℕ) → 2 * k + 2 ≤ n → field (part f i n) k ≡ word f (i + 2 * k)
field_part f i n k h =
    let low = get_or-take n (drop i f) (2 * k) 0 (omega arith) ∙ get_or-drop i f (2 * k) 0 in
    let high = get_or-take n (drop i f) (2 * k + 1) 0 (omega arith) ∙ get_or-drop i f (2 * k + 1) 0 in
    let there : i + (2 * k + 1) ≡ i + 2 * k + 1 = omega arith in
    omega (arith, low, high ∙ ap (λ j. get_or f j 0) there)
