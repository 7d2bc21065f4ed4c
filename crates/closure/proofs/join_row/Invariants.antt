use Rattle.closure.proofs.Rows.{RowPart}
use Rattle.closure.proofs.join_row.Given as goal

abbrev pub invariant-loop-k : goal.invariant-loop-k
invariant-loop-k l = RowPart l.initial.table l.table l.roles l.i l.s l.k
