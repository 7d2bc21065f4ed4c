use Rattle.closure.proofs.Pairs.{PairPart}
use Rattle.closure.proofs.add_pair.Given as goal

abbrev pub invariant-loop-i : goal.invariant-loop-i
invariant-loop-i l = PairPart l.initial.table l.table l.roles l.r l.s l.i
