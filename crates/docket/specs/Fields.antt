-- A concept as it is filed: a tag and two numbers.
use Rattle.std.specs.Prelude.{◌≡◌, ℕ, Bool, false, cond, not, List, [], ◌∷◌, Some, None, Ok, Err, Option, Result, ◌==◌, nat_le, nat_lt}
use Rattle.refusals.specs.declared.Refusal.{Refusal}
use Rattle.refusals.specs.Table.{returned}
use Rattle.refusals.specs.Checks.{when, first}
use Rattle.logic.specs.declared.concept.Concept.{Concept}
use Rattle.logic.specs.Concepts.{tag, first_number, second_number}
use Rattle.docket.specs.declared.fields.Use.{Use}
use Rattle.docket.specs.declared.fields.Use.TheVariants.{Unused, Name, Role, Concept as Part}

-- what the numbers after a tag are: none; a name; two concepts; a role and a concept
abbrev pub use_of_first : ℕ → Use
use_of_first t = cond (nat_lt t 2) Unused (cond (nat_lt t 4) Name (cond (nat_lt t 6) Part Role))

abbrev pub use_of_second : ℕ → Use
use_of_second t = cond (nat_lt t 4) Unused Part

-- an unused number is 0, names are 0 to 1,023, roles are 0 to 127
abbrev pub out_of_range : Use → ℕ → Bool
out_of_range Unused n = not (n == 0)
out_of_range Name n = nat_le 1024 n
out_of_range Role n = nat_le 128 n
out_of_range Part n = false

-- a part is one of the concepts that stand
abbrev pub part_absent : Use → ℕ → ℕ → Bool
part_absent Part count n = nat_le count n
part_absent other count n = false

-- what reading a concept checks, in this order
abbrev pub concept_checks : ℕ → ℕ → ℕ → ℕ → List (Option (ℕ × ℕ))
concept_checks count t a b =
    when (nat_lt 7 t) (3, 0)
    ∷ when (out_of_range (use_of_first t) a) (3, 1)
    ∷ when (out_of_range (use_of_second t) b) (3, 2)
    ∷ when (part_absent (use_of_first t) count a) (4, 1)
    ∷ when (part_absent (use_of_second t) count b) (4, 2) ∷ []

-- concept k is written with tag t and the numbers a and b
pub record Written (t a b : ℕ) (k : Concept) : Type 0 where
  pub has_tag : tag k ≡ t
  pub has_first : first_number k ≡ a
  pub has_second : second_number k ≡ b

-- the concept that is written, or the first check that refuses
abbrev pub Read : ℕ → ℕ → ℕ → ℕ → Result Concept Refusal → Type 0
Read count t a b (Ok k) = (first (concept_checks count t a b) ≡ None) × Written t a b k
Read count t a b (Err f) = first (concept_checks count t a b) ≡ Some (returned f)
