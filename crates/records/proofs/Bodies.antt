-- A body is a part of the file, and so are the parts of the body.
use Rattle.std.proofs.Common.{◌≡◌, ℕ, ◌+◌, ◌-◌, ◌≤◌, List, take, drop, sym, ap, ◌∙◌, arith}
use Rattle.std.proofs.lemmas.List.{take-take, drop-take, drop-drop}
use Rattle.std.specs.List.{slice_range}
use Rattle.file_bytes.specs.Bytes.{part}
use Rattle.records.specs.Records.{size_at}

-- the bytes b from i on, n of them, begin with these
pub part_front : (f : List ℕ) (i n k : ℕ) (b : List ℕ) → b ≡ part f i n → k ≤ n → take k b ≡ part f i k
part_front f i n k b is h = rw is (take-take k n (drop i f) h)

-- and end with these
pub part_back : (f : List ℕ) (i n k : ℕ) (b : List ℕ) → b ≡ part f i n → k ≤ n → drop k b ≡ part f (i + k) (n - k)
part_back f i n k b is h =
    let whole : k + (n - k) ≡ n = omega arith in
    rw is (ap (λ m. drop k (take m (drop i f))) (sym whole) ∙ drop-take k (n - k) (drop i f) ∙ ap (take (n - k)) (drop-drop k i f))

-- what is cut out of the file after the head
pub body_part : (f b : List ℕ) (n : ℕ) → n ≡ size_at f 0 → b ≡ slice_range f 4 (4 + n) → b ≡ part f 4 (size_at f 0)
body_part f b n size is =
    let count : 4 + n - 4 ≡ size_at f 0 = omega (arith, size) in
    is ∙ ap (λ m. take m (drop 4 f)) count
