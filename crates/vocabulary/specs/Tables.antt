-- The tables by which role axioms and axioms are looked up.
use Rattle.std.specs.Prelude.{◌≡◌, ℕ, ◌/◌, ◌<◌, length, List}
use Rattle.bits.specs.Among.{among}
use Rattle.bits.specs.Bits.{bit, has}
use Rattle.logic.specs.declared.role.RoleAxiom.{RoleAxiom}
use Rattle.logic.specs.Roles.{AllNameBelow}
use Rattle.closure.specs.Closure.{cell}
use Rattle.closure.specs.Decide.{is_below, is_transitive}

-- the role axioms name the roles 0 to 127, and the tables answer for these what the role axioms say
pub record RolesAgree (axioms : List RoleAxiom) (below : List ℕ) (transitive : ℕ) : Type 0 where
  pub names : AllNameBelow 128 axioms
  pub pairs : (r s : ℕ) → r < 128 → s < 128 → cell below 128 r s ≡ is_below axioms r s
  pub marks : (r : ℕ) → r < 128 → bit transitive (r / 2) ≡ is_transitive axioms r

-- the row has exactly those concepts of the list that it has a bit for
pub record RowAgrees (axioms row : List ℕ) : Type 0 where
  pub sixteen : length row ≡ 16
  pub exact : (c : ℕ) → c < 1024 → has row c ≡ among axioms c
