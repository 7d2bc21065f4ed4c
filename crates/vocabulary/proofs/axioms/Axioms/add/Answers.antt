use Rattle.vocabulary.proofs.AxiomRows.{agree_more}
use Rattle.vocabulary.proofs.axioms.Axioms.add.Goals as goal

pub invariant_of-self-2 : goal.invariant_of-self-2
invariant_of-self-2 c = rw (c.in_ok-number.ensures.2, c.insert.ensures) (agree_more c.self.inside.list c.self.inside.row c.args.c c.self.invariant)
