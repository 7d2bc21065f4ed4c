-- How many records fit into so many bytes.
use Rattle.std.proofs.Common.{◌≡◌, ℕ, ◌+◌, ◌-◌, ◌*◌, ◌≤◌, min, List, [], ◌∷◌, length, sym, ap, ◌∙◌, arith}
use Rattle.records.specs.Records.{end_of, size_at}
use Rattle.records.specs.Files.{Lies, ended, behind, HasRecords, FilesAreTheirRecords}

-- each record but the last has at least the four bytes of a head
pub records_fit : (f : List ℕ) (i : ℕ) (is : List ℕ) → Lies f i is → 4 * length is ≤ length f - i + 3
records_fit f i [] (ended l) = omega arith
records_fit f i (j ∷ is) (behind l lies) =
    let rest : 4 * length is ≤ length f - min (i + 4 + size_at f i) (length f) + 3 = records_fit f (end_of f i) is lies in
    omega (arith, l, rest)

-- so a file of at most 4 k bytes has at most k records
pub records_within : (f : List ℕ) (k : ℕ) → length f ≤ 4 * k → (n : ℕ) → HasRecords f n → n ≤ k
records_within f k l n (is, lies, e) =
    let fit : 4 * length is ≤ length f - 0 + 3 = records_fit f 0 is lies in
    omega (arith, l, e, fit)

-- a file has one number of records
pub same_count : (f : List ℕ) (m : ℕ) → HasRecords f m → FilesAreTheirRecords → (n : ℕ) → HasRecords f n → n ≤ m
same_count f m (is, lies, e) law n (js, lies', e') =
    let (_, _, one, _) = law f in
    let same : length js ≡ length is = ap length (one js lies' ∙ sym (one is lies)) in
    omega (arith, e, e', same)
