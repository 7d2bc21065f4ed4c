-- The two-byte numbers of a part, one after another.
use Rattle.std.proofs.Common.{◌≡◌, ℕ, ◌/◌, List, [], ◌∷◌, length, refl, arith}
use Rattle.file_bytes.specs.Bytes.{numbers}

pub numbers_length : (f : List ℕ) → length (numbers f) ≡ length f / 2
numbers_length [] = refl
numbers_length (a ∷ []) = refl
numbers_length (a ∷ b ∷ f) = let e = numbers_length f in omega arith
