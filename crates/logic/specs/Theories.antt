-- A theory: what has been said of roles and concepts, as plain lists of any length. Rules and
-- models are judged by it, and by nothing else.
use Rattle.std.specs.Prelude.{◌≡◌, ℕ, Bool, true, false, cond, List, length, Some, None, Option, ◌==◌, nat_lt, slice_index_or}
use Rattle.logic.specs.declared.concept.Concept.{Concept}
use Rattle.logic.specs.declared.concept.Concept.TheVariants.{Top}
use Rattle.logic.specs.declared.role.RoleAxiom.{RoleAxiom}
use Rattle.logic.specs.Interpretations.{Interpretation, Element}
use Rattle.logic.specs.Meaning.{LiesIn, Meets}

-- role axioms and axioms in filing order, concepts by number, and the mate of each concept that has
-- one
pub record Theory : Type 0 where
  pub role_axioms : List RoleAxiom
  pub concepts : List Concept
  pub mates : ℕ → Option ℕ
  pub axioms : List ℕ

-- concept c, if it stands
abbrev pub concept_at : Theory → ℕ → Option Concept
concept_at t c = cond (nat_lt c (length t.concepts)) (Some (slice_index_or t.concepts c Top)) None

-- c and d are mates
abbrev pub AreMates : (ℕ → Option ℕ) → ℕ → ℕ → Type 0
AreMates mates c d = mates c ≡ Some d

-- whether what was found is d
abbrev pub found : Option ℕ → ℕ → Bool
found None d = false
found (Some c) d = c == d

-- whether c and d are mates
abbrev pub are_mates : (ℕ → Option ℕ) → ℕ → ℕ → Bool
are_mates mates c d = found (mates c) d

-- the interpretation meets both lists of axioms
abbrev pub MeetsAxioms : Interpretation → Theory → Type 0
MeetsAxioms I t = Meets I t.role_axioms t.concepts t.axioms

-- the interpretation has an element in all of the concepts of X
pub record Inhabits (I : Interpretation) (t : Theory) (X : ℕ → Bool) : Type 0 where
  pub element : ℕ
  pub inside : Element I element
  pub in_all : (c : ℕ) → X c ≡ true → LiesIn I t.concepts c element
