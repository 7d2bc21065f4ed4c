-- Which concepts are mates, as the memory has it.
use Rattle.std.specs.Prelude.{◌≡◌, ℕ, cond, ◌&&◌, None, Option, nat_lt, slice_index_or}
use Rattle.logic.specs.Pairing.{joined}
use Rattle.vocabulary.specs.declared.mates.Mates.{Mates}

-- the mate of concept c, if it has one
abbrev pub mate : Mates → ℕ → Option ℕ
mate m c = cond (nat_lt c 1024) (slice_index_or m.of c None) None

-- m becomes n: c and d are mates of each other, and all others have the mates that they had
abbrev pub Joined : Mates → Mates → ℕ → ℕ → Type 0
Joined m n c d =
    ((x : ℕ) → mate n x ≡ cond (nat_lt c 1024 && nat_lt d 1024) (joined (mate m) c d x) (mate m x))
    × (n ≡ record m { of = n.of })
