use Rattle.std.proofs.Common.{refl, rules}
use Rattle.schemas.proofs.Extending.{concluded_row}
use Rattle.local_rules.proofs.general.GeneralRuleRule.conclusion.Goals as goal

pub returns-then-has_conclusion : goal.returns-then-has_conclusion
returns-then-has_conclusion c = concluded_row c.extended.result _ _ (search rules) (λ k. refl) c.extended.ensures
