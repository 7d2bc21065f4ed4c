use Rattle.std.proofs.Common.{refl, rules}
use Rattle.schemas.proofs.Extending.{concluded_row}
use Rattle.cut_rules.proofs.inverse_cut.InverseCutRuleRule.conclusion.Goals as goal

pub returns-then-has_conclusion : goal.returns-then-has_conclusion
returns-then-has_conclusion c = concluded_row c.split.result _ _ (search rules) (λ k. refl) c.split.ensures
