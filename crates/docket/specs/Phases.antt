-- Whether a call is taken depends on the phase and on what the call is about.
use Rattle.std.specs.Prelude.{Bool, true, false, not}
use Rattle.docket.specs.declared.phase.Phase.{Phase}
use Rattle.docket.specs.declared.phase.Phase.TheVariants.{Open, Sealed}
use Rattle.docket.specs.declared.phase.Subject.{Subject}
use Rattle.docket.specs.declared.phase.Subject.TheVariants.{RoleAxiom, Concept, Pair, Axiom, Seal, Line, Claim, Closing}

abbrev pub is_unsealed : Phase → Bool
is_unsealed Open = true
is_unsealed Sealed = false

-- concepts and pairs are taken in either phase; axioms of either list and the seal only before
-- sealing, lines, claims and closings only after it
abbrev pub admits : Phase → Subject → Bool
admits phase RoleAxiom = is_unsealed phase
admits phase Concept = true
admits phase Pair = true
admits phase Axiom = is_unsealed phase
admits phase Seal = is_unsealed phase
admits phase Line = not (is_unsealed phase)
admits phase Claim = not (is_unsealed phase)
admits phase Closing = not (is_unsealed phase)

-- the phase after a call that is taken
abbrev pub after : Phase → Subject → Phase
after phase Seal = Sealed
after phase subject = phase
