-- What the rules ask of a premise.
use Rattle.std.specs.Prelude.{Bool, cond, ◌&&◌, None, Option, ◌==◌}
use Rattle.bits.specs.Bits.{has}
use Rattle.logic.specs.declared.concept.Concept.{Concept}
use Rattle.logic.specs.Theories.{concept_at}
use Rattle.vocabulary.specs.Vocabularies.{theory}
use Rattle.calculus.specs.declared.premise.Premise.{Premise}
use Rattle.calculus.specs.declared.rule.Principals.{Principals}

-- the step names p alone
abbrev pub p_alone : Principals → Bool
p_alone on = on.q == 0 && on.s == 0

-- concept p, if the step names it alone and it is in the label
abbrev pub sole_principal : Premise → Option Concept
sole_principal at =
    cond (has at.label.now at.on.p && p_alone at.on)
    (concept_at (theory at.vocabulary.now) at.on.p) None
