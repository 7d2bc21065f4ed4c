-- The least number that passes a test.
use Rattle.std.specs.Prelude.{ℕ, zero, suc, Bool, true, false, Some, None, Option}

-- what was found, or else n, if it passes
abbrev pub found_or : Option ℕ → Bool → ℕ → Option ℕ
found_or (Some k) b n = Some k
found_or None true n = Some n
found_or None false n = None

-- the least number below n that passes the test; None if none does
unfoldable pub least : ℕ → (ℕ → Bool) → Option ℕ
least zero f = None
least (suc n) f = found_or (least n f) (f n) n
