-- A whole file is its records, one after another.
use Rattle.std.specs.Prelude.{◌≡◌, ℕ, ◌-◌, ◌<◌, ◌≤◌, List, [], ◌∷◌, ◌++◌, length}
use Rattle.file_bytes.specs.Bytes.{part}
use Rattle.records.specs.Records.{end_of}

-- From offset i on, the file's records begin at these offsets, one after another.
pub data Lies (f : List ℕ) : ℕ → List ℕ → Type 0 where
  ended : {i : ℕ} → length f ≤ i → Lies f i []
  behind : {i : ℕ} {is : List ℕ} → i < length f → Lies f (end_of f i) is → Lies f i (i ∷ is)

-- the file has n records
abbrev pub HasRecords : List ℕ → ℕ → Type 0
HasRecords f n = (offsets : List ℕ) × Lies f 0 offsets × (n ≡ length offsets)

-- the bytes of the record at i
abbrev pub bytes_of : List ℕ → ℕ → List ℕ
bytes_of f i = part f i (end_of f i - i)

-- the bytes of the records at these offsets, in this order
abbrev pub together : List ℕ → List ℕ → List ℕ
together f [] = []
together f (i ∷ is) = bytes_of f i ++ together f is

-- Every file has one list of records, so that reading it ends, and together they are the file:
-- nothing is skipped, and nothing is read twice.
abbrev pub FilesAreTheirRecords : Type 0
FilesAreTheirRecords =
    (f : List ℕ) → (is : List ℕ) × Lies f 0 is × ((js : List ℕ) → Lies f 0 js → js ≡ is)
    × (together f is ≡ f)
