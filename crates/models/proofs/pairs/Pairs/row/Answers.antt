use Rattle.std.proofs.Common.{◌/◌, ◌%◌, sym, ap, ◌∙◌, arith, rules}
use Rattle.bits.specs.Bits.{bit}
use Rattle.bits.proofs.BitFacts.{has_zeros}
use Rattle.models.proofs.PairFacts.{leads_none}
use Rattle.models.proofs.pairs.Pairs.row.Goals as goal

pub returns-then-x-lt-MOST_ELEMENTS-clause-leads_to : goal.returns-then-x-lt-MOST_ELEMENTS-clause-leads_to
returns-then-x-lt-MOST_ELEMENTS-clause-leads_to c = λ z h. ap (λ w. bit w (z % 64)) (c.row.ensures.words (z / 64) (omega arith)) ∙ c.args.self.now.tabled c.args.x z (search rules) h

pub returns-else-x-lt-MOST_ELEMENTS-clause-leads_to : goal.returns-else-x-lt-MOST_ELEMENTS-clause-leads_to
returns-else-x-lt-MOST_ELEMENTS-clause-leads_to c =
    let self = c.args.self.now in
    λ z h. has_zeros 4 z ∙ sym (leads_none self.formed.model.now self.formed.formed self.role c.args.x z (λ p. let l = p.0 in omega arith))
