use Rattle.std.proofs.Common.{◌≡◌, ℕ, [], ◌∷◌, ap₂, rules}
use Rattle.logic.specs.Theories.{concept_at}
use Rattle.vocabulary.specs.Vocabularies.{theory}
use Rattle.schemas.specs.Tests.{first_of, second_of}
use Rattle.schemas.proofs.Extending.{added_row}
use Rattle.local_rules.proofs.conjunction.ConjunctionRuleRule.conclusion.Goals as goal

pub returns-in-Some-And : goal.returns-in-Some-And
returns-in-Some-And c =
    let o = concept_at (theory c.args.at.now.vocabulary.now) c.args.at.now.on.p in
    let first : c.in-Some-And.c ≡ first_of o = search rules in
    let second : c.in-Some-And.d ≡ second_of o = search rules in
    added_row c.args.at.now c.extended.result (search rules) (ap₂ (λ (a b : ℕ). a ∷ b ∷ []) first second) c.extended.ensures
