-- A call checks one thing after another, in the order of the table of refusals, and returns the
-- first refusal that it meets. A check is written as the table has it: the condition, then the
-- number and the place, as `when (nat_le 128 r) (3, 0)`.
use Rattle.std.specs.Prelude.{◌≡◌, ℕ, Bool, true, false, List, [], ◌∷◌, Some, None, Ok, Err, Option, Result}
use Rattle.refusals.specs.declared.Refusal.{Refusal}
use Rattle.refusals.specs.Table.{returned}

-- x, if the test is met
abbrev pub when : {A : Type 0} → Bool → A → Option A
when true x = Some x
when false x = None

-- x, or else y
abbrev pub otherwise : {A : Type 0} → Option A → Option A → Option A
otherwise (Some x) y = Some x
otherwise None y = y

-- the first of the checks that refuses
abbrev pub first : {A : Type 0} → List (Option A) → Option A
first [] = None
first (x ∷ xs) = otherwise x (first xs)

-- the refusal that a value found asks for
abbrev pub with : {A B : Type 0} → (A → B) → Option A → Option B
with f None = None
with f (Some x) = Some (f x)

-- checks are passed if none refuses; else the first that does is returned, by the table's number
-- and place
abbrev pub Passed : List (Option (ℕ × ℕ)) → Result (Unit {0}) Refusal → Type 0
Passed checks (Ok u) = first checks ≡ None
Passed checks (Err x) = first checks ≡ Some (returned x)

-- an answer is right if it is what R says of it; a refusal is of the first check that refuses
abbrev pub Answered : {A : Type 0} → List (Option (ℕ × ℕ)) → (A → Type 0) → Result A Refusal → Type 0
Answered checks R (Ok x) = (first checks ≡ None) × R x
Answered checks R (Err x) = first checks ≡ Some (returned x)
