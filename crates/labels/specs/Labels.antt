-- Labels. A label is a set of concepts, given as a strictly rising list of numbers and kept as a
-- row of sixteen words: concept c is bit c mod 64 of word c div 64.
use Rattle.std.specs.Prelude.{◌≡◌, ℕ, ◌-◌, ◌%◌, Bool, not, ◌&&◌, List, [], ◌∷◌, length, replicate, Option, ◌==◌, nat_le, nat_lt, slice_index}
use Rattle.bits.specs.Bits.{has, inserted}
use Rattle.labels.specs.Least.{least}

-- the bytes end in the middle of a member, which has two
abbrev pub is_cut : List ℕ → Bool
is_cut bytes = length bytes % 2 == 1

-- the number at i is not below the count
abbrev pub absent : ℕ → List ℕ → ℕ → Bool
absent count ms i = nat_le count (slice_index ms i)

-- the first position whose number is not below the count
abbrev pub absent_at : ℕ → List ℕ → Option ℕ
absent_at count ms = least (length ms) (absent count ms)

-- the number at i is not above the one before it
abbrev pub falls : List ℕ → ℕ → Bool
falls ms i = nat_lt 0 i && nat_le (slice_index ms i) (slice_index ms (i - 1))

-- the first position whose number is not above the one before it
abbrev pub falling_at : List ℕ → Option ℕ
falling_at ms = least (length ms) (falls ms)

-- the numbers put into a row, one after the other
abbrev pub filled : List ℕ → List ℕ → List ℕ
filled r [] = r
filled r (m ∷ ms) = filled (inserted r m) ms

-- the row of sixteen words with exactly these numbers; numbers past 1,023 are left out
unfoldable pub row : List ℕ → List ℕ
row ms = filled (replicate 16 0) ms

-- a row of sixteen words that has exactly the numbers below 1,024 that pass the test
abbrev pub Row : List ℕ → (ℕ → Bool) → Type 0
Row r f = (length r ≡ 16) × ((c : ℕ) → has r c ≡ (nat_lt c 1024 && f c))

-- the least number of row y that is not in row x
abbrev pub outside : List ℕ → List ℕ → Option ℕ
outside y x = least 1024 (λ c. has y c && not (has x c))

-- the least number of a row from c upward
abbrev pub next_from : List ℕ → ℕ → Option ℕ
next_from r c = least 1024 (λ k. nat_le c k && has r k)
