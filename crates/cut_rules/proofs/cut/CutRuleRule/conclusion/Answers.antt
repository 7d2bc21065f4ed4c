use Rattle.std.proofs.Common.{◌≡◌, ℕ, cond, eqb, [], ◌∷◌, ap, rules}
use Rattle.schemas.proofs.Extending.{added_row}
use Rattle.cut_rules.proofs.cut.CutRuleRule.conclusion.Goals as goal

pub returns-after-i-eq0 : goal.returns-after-i-eq0
returns-after-i-eq0 c =
    let on = c.args.at.now.on in
    let mate : c.if-i-eq0.mate ≡ cond (eqb c.args.i 0) on.p on.q = search rules in
    added_row c.args.at.now c.extended.result (search rules) (ap (λ (d : ℕ). d ∷ []) mate) c.extended.ensures
