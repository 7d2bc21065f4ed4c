-- Sets of the elements 0 to 255 in rows of four words.
use Rattle.std.specs.Prelude.{◌≡◌, ℕ, ◌+◌, ◌*◌, ◌/◌, ◌%◌, ◌<◌, ◌≤◌, Bool, cond, not, ◌≢◌, List, length, slice_index}
use Rattle.bits.specs.Bits.{bit}

-- there is room for row c
abbrev pub HasRow : List ℕ → ℕ → Type 0
HasRow rows c = 4 * c + 4 ≤ length rows

-- whether row c contains element e
abbrev pub contains : List ℕ → ℕ → ℕ → Bool
contains rows c e = bit (slice_index rows (4 * c + e / 64)) (e % 64)

-- the bit b, turned round where t is set
abbrev pub turned : Bool → Bool → Bool
turned t b = cond t (not b) b

-- these are the words of row c
pub record IsRow (rows : List ℕ) (c : ℕ) (row : List ℕ) : Type 0 where
  pub four : length row ≡ 4
  pub words : (w : ℕ) → w < 4 → slice_index row w ≡ slice_index rows (4 * c + w)

-- row c becomes these words, and no word of another row changes
pub record RowWritten (old new : List ℕ) (c : ℕ) (row : List ℕ) : Type 0 where
  pub words : (w : ℕ) → w < 4 → slice_index new (4 * c + w) ≡ slice_index row w
  pub others : (i : ℕ) → i / 4 ≢ c → slice_index new i ≡ slice_index old i

-- row c becomes the set of the elements that f passes, and no word of another row changes
pub record RowBecomes (old new : List ℕ) (c : ℕ) (f : ℕ → Bool) : Type 0 where
  pub elements : (e : ℕ) → e < 256 → contains new c e ≡ f e
  pub others : (i : ℕ) → i / 4 ≢ c → slice_index new i ≡ slice_index old i
