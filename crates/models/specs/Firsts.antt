-- The first number that fails.
use Rattle.std.specs.Prelude.{ℕ, ◌<◌, Some, None, Option}

-- the first number below n that hasn't P; None if each has it
abbrev pub First : (ℕ → Type 0) → ℕ → Option ℕ → Type 0
First P n None = (k : ℕ) → k < n → P k
First P n (Some i) = (i < n) × (P i → ⊥) × ((k : ℕ) → k < i → P k)
