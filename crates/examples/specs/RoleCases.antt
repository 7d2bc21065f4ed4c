-- What lists of role axioms say of roles.
use Rattle.std.specs.Prelude.{true, false, List, [], ◌∷◌}
use Rattle.logic.specs.declared.role.RoleAxiom.{RoleAxiom}
use Rattle.logic.specs.declared.role.RoleAxiom.TheVariants.{Inclusion, Transitivity}
use Rattle.examples.specs.Cases.{Case, below, transitive}

-- one inclusion, of the last role name in the first
abbrev pub last_in_first : List RoleAxiom
last_in_first = Inclusion 126 0 ∷ []

-- a role below a transitive one
abbrev pub below_transitive : List RoleAxiom
below_transitive = Inclusion 0 2 ∷ Transitivity 2 ∷ []

-- a chain of two inclusions
abbrev pub two_steps : List RoleAxiom
two_steps = Inclusion 124 126 ∷ Inclusion 126 2 ∷ []

abbrev pub role_cases : List Case
role_cases =
    -- the inverses are included too, and a role in its own inverse is not; nor does an inclusion
    -- turn round
    below last_in_first 126 0 true
    ∷ below last_in_first 127 1 true
    ∷ below last_in_first 127 0 false
    ∷ below last_in_first 126 1 false
    ∷ below last_in_first 0 126 false
    ∷ below last_in_first 1 127 false
    ∷ below last_in_first 126 126 true
    ∷ below last_in_first 126 127 false
    -- a role is transitive with its inverse, and nothing that is below it is so for that
    ∷ transitive below_transitive 2 true
    ∷ transitive below_transitive 3 true
    ∷ transitive below_transitive 0 false
    ∷ transitive below_transitive 1 false
    ∷ below below_transitive 0 2 true
    ∷ below below_transitive 1 3 true
    ∷ below below_transitive 2 0 false
    ∷ transitive last_in_first 126 false
    -- inclusions go on along a chain
    ∷ below two_steps 124 2 true
    ∷ below two_steps 125 3 true
    ∷ below two_steps 125 2 false
    ∷ below two_steps 2 124 false
    ∷ []
