-- The closure of the inclusions among roles, as a table of bits: row i has a bit for each role j
-- that i is below.
use Rattle.std.specs.Prelude.{◌≡◌, ℕ, ◌+◌, ◌*◌, ◌/◌, ◌%◌, ◌^◌, ◌<◌, Bool, cond, ◌&&◌, ◌||◌, T, ◌≢◌, ◌↔◌, List, length, ◌==◌, bit_or, slice_index}
use Rattle.bits.specs.Bits.{bit}
use Rattle.logic.specs.declared.role.RoleAxiom.{RoleAxiom}
use Rattle.logic.specs.Roles.{Below}

-- how many words a row has
abbrev pub row_words : ℕ → ℕ
row_words roles = (roles + 63) / 64

-- the table has a row for each role
abbrev pub Square : List ℕ → ℕ → Type 0
Square table roles = length table ≡ roles * row_words roles

-- word k of row i
abbrev pub row_word : List ℕ → ℕ → ℕ → ℕ → ℕ
row_word table roles i k = slice_index table (i * row_words roles + k)

-- the bit of role j in row i
abbrev pub cell : List ℕ → ℕ → ℕ → ℕ → Bool
cell table roles i j = bit (row_word table roles i (j / 64)) (j % 64)

-- the table has the bit of j in row i exactly if i is below j
abbrev pub Exact : List ℕ → ℕ → List RoleAxiom → Type 0
Exact table roles axioms =
    (i j : ℕ) → i < roles → j < roles → T (cell table roles i j) ↔ Below axioms i j

-- word k of row i, where i is below itself alone
abbrev pub own_word : ℕ → ℕ → ℕ
own_word i k = cond (k == i / 64) (2 ^ (i % 64)) 0

-- row i has taken over row s, and the other rows are as they were
pub record RowJoined (old new : List ℕ) (roles i s : ℕ) : Type 0 where
  pub joined : (k : ℕ) → k < row_words roles
      → row_word new roles i k ≡ bit_or (row_word old roles i k) (row_word old roles s k)
  pub others : (a k : ℕ) → a < roles → k < row_words roles → a ≢ i
      → row_word new roles a k ≡ row_word old roles a k

-- a closed relation f with the pair (r, s) put in: it leads from i to j as before, or through the
-- pair
abbrev pub is_through : (ℕ → ℕ → Bool) → ℕ → ℕ → ℕ → ℕ → Bool
is_through f r s i j = f i j || (f i r && f s j)

-- the table has the pair (r, s) put in
abbrev pub PairAdded : List ℕ → List ℕ → ℕ → ℕ → ℕ → Type 0
PairAdded old new roles r s =
    (i j : ℕ) → i < roles → j < roles → cell new roles i j ≡ is_through (cell old roles) r s i j
