use Rattle.std.proofs.Common.{◌<◌, ◌≤◌, sym, ◌∙◌, ⊎_elim, arith}
use Rattle.std.proofs.lemmas.Bool.{cases_lt}
use Rattle.bits.proofs.BitFacts.{has_past}
use Rattle.models.proofs.PairFacts.{leads_none}
use Rattle.models.proofs.pairs.Pairs.has.Goals as goal

pub returns : goal.returns
returns c =
    let self = c.args.self.now in
    let to = c.args.to in
    c.has.ensures ∙ ⊎_elim
    (λ (h : to < 256). c.row.ensures.leads_to to h)
    (λ (h : 256 ≤ to). has_past c.row.result to (omega (arith, c.row.ensures.four)) ∙ sym (leads_none self.formed.model.now self.formed.formed self.role c.args.from to (λ p. let l = p.1 in omega arith)))
    (cases_lt to 256)
