-- Sets of numbers as rows of 64-bit words.
use Rattle.std.specs.Prelude.{ℕ, ◌/◌, ◌%◌, ◌^◌, Bool, List, ◌==◌, bit_or, slice_index, slice_set}

-- bit j of the number x
abbrev pub bit : ℕ → ℕ → Bool
bit x j = x / 2 ^ j % 2 == 1

-- the number c is in the row; past its words there is none
abbrev pub has : List ℕ → ℕ → Bool
has row c = bit (slice_index row (c / 64)) (c % 64)

-- the row with the bit of c set; past its words there is nothing to set
abbrev pub inserted : List ℕ → ℕ → List ℕ
inserted row c = slice_set row (c / 64) (bit_or (slice_index row (c / 64)) (2 ^ (c % 64)))
