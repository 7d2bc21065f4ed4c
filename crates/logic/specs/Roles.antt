-- Roles, and what a list of role axioms says of them.
use Rattle.std.specs.Prelude.{ℕ, ◌+◌, ◌-◌, ◌*◌, ◌%◌, ◌<◌, ◌⊎◌, List}
use mathlib.Core.List.{Memᴰ}
use Rattle.logic.specs.declared.role.RoleAxiom.{RoleAxiom}
use Rattle.logic.specs.declared.role.RoleAxiom.TheVariants.{Inclusion, Transitivity}

-- the inverse of a role: role 2n is role name n, role 2n + 1 its inverse
abbrev pub inverse : ℕ → ℕ
inverse r = r + 1 - 2 * (r % 2)

-- R is below S: the least relation that has every listed inclusion, has each role below itself,
-- passes along chains, and has the inverse of R below the inverse of S wherever R is below S
pub data Below (axioms : List RoleAxiom) : ℕ → ℕ → Type 0 where
  listed : {r s : ℕ} → Memᴰ (Inclusion r s) axioms → Below axioms r s
  itself : {r : ℕ} → Below axioms r r
  chained : {r s t : ℕ} → Below axioms r s → Below axioms s t → Below axioms r t
  inverted : {r s : ℕ} → Below axioms r s → Below axioms (inverse r) (inverse s)

-- R is transitive: the list names it or its inverse
abbrev pub Transitive : List RoleAxiom → ℕ → Type 0
Transitive axioms r = Memᴰ (Transitivity r) axioms ⊎ Memᴰ (Transitivity (inverse r)) axioms

-- the roles that an axiom names are below n
abbrev pub NamesBelow : ℕ → RoleAxiom → Type 0
NamesBelow n (Inclusion r s) = (r < n) × (s < n)
NamesBelow n (Transitivity r) = r < n

abbrev pub AllNameBelow : ℕ → List RoleAxiom → Type 0
AllNameBelow n axioms = (a : RoleAxiom) → Memᴰ a axioms → NamesBelow n a
