use Rattle.models.proofs.PartFacts.{Walked}
use Rattle.models.proofs.edge_parts.edge_parts.Given as goal

abbrev pub invariant-loop-i : goal.invariant-loop-i
invariant-loop-i l = Walked l.model.edges.now l.i l.name l.start l.parts
