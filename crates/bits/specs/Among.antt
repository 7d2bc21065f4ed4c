-- The numbers of a list.
use Rattle.std.specs.Prelude.{ℕ, Bool, false, ◌||◌, List, [], ◌∷◌, ◌==◌}

-- c is one of the numbers
abbrev pub among : List ℕ → ℕ → Bool
among [] c = false
among (m ∷ ms) c = m == c || among ms c
