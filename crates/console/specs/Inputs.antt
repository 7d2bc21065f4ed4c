-- What a program reads.
use Rattle.std.specs.Prelude.{◌≡◌, ℕ, ◌<◌, ◌≤◌, List, length, take, drop, Some, None, Option}
use Rattle.std.specs.Io.KnownBytes.{Consumes}

-- The file is the first bytes of the input, as many as the limit or all that there are, and the
-- rest is left; where the input's bytes are known.
abbrev pub IsFirst : ℕ → Option (List ℕ) → Option (List ℕ) → List ℕ → Type 0
IsFirst limit None rest file = Unit {0}
IsFirst limit (Some xs) rest file = (file ≡ take limit xs) × (rest ≡ Some (drop limit xs))

-- n bytes were put at the front of a buffer, and the places behind them are as they were
abbrev pub PutInFront : (old new : List ℕ) → ℕ → Type 0
PutInFront old new n = (n ≤ length old) × (length new ≡ length old) × (drop n new ≡ drop n old)

-- the first n bytes of the buffer are the first of the input, as many as it has places or all
abbrev pub IsRead : (input rest : Option (List ℕ)) → (old new : List ℕ) → ℕ → Type 0
IsRead input rest old new n = PutInFront old new n × IsFirst (length old) input rest (take n new)

-- reading broke off before the buffer was full; all that had come till then is at its front
abbrev pub BreaksOff : (input rest : Option (List ℕ)) → (old new : List ℕ) → Type 0
BreaksOff input rest old new =
    (n : ℕ) × (n < length old) × PutInFront old new n × Consumes input rest (take n new)
