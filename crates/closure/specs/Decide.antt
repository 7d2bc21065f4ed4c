-- What a list of role axioms says of roles, as tests that compute: the tables of the docket and the
-- tests of the rules answer this.
use Rattle.std.specs.Prelude.{ℕ, Bool, false, ◌||◌, List, [], ◌∷◌, ◌==◌}
use Rattle.logic.specs.declared.role.RoleAxiom.{RoleAxiom}
use Rattle.logic.specs.declared.role.RoleAxiom.TheVariants.{Inclusion, Transitivity}
use Rattle.logic.specs.Roles.{inverse}
use Rattle.closure.specs.Closure.{is_through}

-- whether role r is below role s: one inclusion at a time, with that of the inverses, put into a
-- relation that is closed
unfoldable pub is_below : List RoleAxiom → ℕ → ℕ → Bool
is_below [] r s = r == s
is_below (Inclusion a b ∷ axioms) r s =
    is_through (is_through (is_below axioms) a b) (inverse a) (inverse b) r s
is_below (Transitivity a ∷ axioms) r s = is_below axioms r s

-- whether role r is transitive: the list names it or its inverse
unfoldable pub is_transitive : List RoleAxiom → ℕ → Bool
is_transitive [] r = false
is_transitive (Inclusion a b ∷ axioms) r = is_transitive axioms r
is_transitive (Transitivity a ∷ axioms) r = (a == r || a == inverse r) || is_transitive axioms r
