use Rattle.std.proofs.Common.{◌≡◌, ℕ, ◌&&◌, ◌||◌, eqb, ltb, length, ap, ap₂, rules}
use Rattle.bits.specs.Among.{among}
use Rattle.bits.specs.Below.{some_below}
use Rattle.bits.specs.Bits.{has}
use Rattle.logic.specs.Theories.{concept_at}
use Rattle.vocabulary.specs.Vocabularies.{theory}
use Rattle.schemas.specs.House.{gives}
use Rattle.schemas.specs.Tests.{first_of, second_of}
use Rattle.schemas.proofs.Extending.{concluded_row, cut_row}
use Rattle.role_rules.proofs.neighbour.NeighbourRuleRule.conclusion.Goals as goal

pub returns-in-Some-Exists : goal.returns-in-Some-Exists
returns-in-Some-Exists c =
    let t = theory c.args.at.now.vocabulary.now in
    let x = c.args.at.now.label.now in
    let n = length t.concepts in
    let o = concept_at t c.args.at.now.on.p in
    let role : c.in-Some-Exists.r ≡ first_of o = search rules in
    let part : c.in-Some-Exists.c ≡ second_of o = search rules in
    concluded_row c.cut_to.result _ _ (search rules)
    (λ k. ap (λ z. ltb k n && z)
    (ap₂ (λ (r d : ℕ). (eqb d k || among t.axioms k) || some_below n (λ j. has x j && gives t r j k)) role part))
    (cut_row c.given.result c.cut_to.result _ _ c.given.ensures (simp c.len.ensures at c.cut_to.ensures))
