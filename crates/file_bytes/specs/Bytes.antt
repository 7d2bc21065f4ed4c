-- Numbers and parts in a string of bytes.
use Rattle.std.specs.Prelude.{ℕ, ◌+◌, ◌*◌, List, [], ◌∷◌, take, drop, slice_index}

-- the number in the two bytes from i on, the low byte first; bytes after the end count as 0
abbrev pub word : List ℕ → ℕ → ℕ
word f i = slice_index f i + 256 * slice_index f (i + 1)

-- the n bytes from i on
abbrev pub part : List ℕ → ℕ → ℕ → List ℕ
part f i n = take n (drop i f)

-- field i of a part: every field has two bytes, and fields count from 0
abbrev pub field : List ℕ → ℕ → ℕ
field f i = word f (2 * i)

-- the fields of a part, one after another; a lone last byte is no field
abbrev pub numbers : List ℕ → List ℕ
numbers [] = []
numbers (a ∷ []) = []
numbers (a ∷ b ∷ f) = (a + 256 * b) ∷ numbers f
