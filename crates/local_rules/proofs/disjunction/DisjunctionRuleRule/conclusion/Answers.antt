use Rattle.std.proofs.Common.{◌≡◌, ℕ, cond, eqb, [], ◌∷◌, ap, rules}
use Rattle.logic.specs.Theories.{concept_at}
use Rattle.vocabulary.specs.Vocabularies.{theory}
use Rattle.schemas.specs.Tests.{first_of, second_of}
use Rattle.schemas.proofs.Extending.{added_row}
use Rattle.local_rules.proofs.disjunction.DisjunctionRuleRule.conclusion.Goals as goal

pub returns-after-i-eq0 : goal.returns-after-i-eq0
returns-after-i-eq0 c =
    let o = concept_at (theory c.args.at.now.vocabulary.now) c.args.at.now.on.p in
    let part : c.if-i-eq0.part ≡ cond (eqb c.args.i 0) (first_of o) (second_of o) = search rules in
    added_row c.args.at.now c.extended.result (search rules) (ap (λ (d : ℕ). d ∷ []) part) c.extended.ensures
