-- What the rules ask of a concept, as tests.
use Rattle.std.specs.Prelude.{ℕ, Bool, false, Some, None, Option, ◌==◌}
use Rattle.logic.specs.declared.concept.Concept.{Concept}
use Rattle.logic.specs.Concepts.{tag, first_number, second_number}

-- it stands, and its tag is t: 1 Bottom, 4 And, 5 Or, 6 Only, 7 Exists
abbrev pub tagged : ℕ → Option Concept → Bool
tagged t None = false
tagged t (Some k) = tag k == t

-- its two numbers, 0 where it has none
abbrev pub first_of : Option Concept → ℕ
first_of None = 0
first_of (Some k) = first_number k

abbrev pub second_of : Option Concept → ℕ
second_of None = 0
second_of (Some k) = second_number k
