use Rattle.std.proofs.Common.{arith}
use Rattle.closure.proofs.Places.{in_table}
use Rattle.closure.proofs.Rows.{row_more}
use Rattle.closure.proofs.join_row.Goals as goal

pub offset_bounds-table-s : goal.offset_bounds-table-s
offset_bounds-table-s c =
    omega (
      arith,
      in_table c.loop-k.table c.args.roles c.row_words-width.result c.args.s c.loop-k.k
          (omega arith) (omega arith) (omega arith) (omega arith),
    )

pub bounds-table-s : goal.bounds-table-s
bounds-table-s c = in_table _ c.args.roles _ _ _ (omega arith) (omega arith) (omega arith) (omega arith)

pub offset_bounds-table-i : goal.offset_bounds-table-i
offset_bounds-table-i c =
    omega (
      arith,
      in_table c.loop-k.table c.args.roles c.row_words-width.result c.args.i c.loop-k.k
          (omega arith) (omega arith) (omega arith) (omega arith),
    )

pub bounds-table-i : goal.bounds-table-i
bounds-table-i c = in_table _ c.args.roles _ _ _ (omega arith) (omega arith) (omega arith) (omega arith)

pub bounds-table-i-in-loop-k : goal.bounds-table-i-in-loop-k
bounds-table-i-in-loop-k c = in_table _ c.args.roles _ _ _ (omega arith) (omega arith) (omega arith) (omega arith)

pub loop-k-preserved : goal.loop-k-preserved
loop-k-preserved c =
    rw c.row_words-width.ensures (row_more c.args.table.now c.loop-k.table c.args.roles c.args.i c.args.s c.loop-k.k
    (omega arith) (omega arith) (omega arith) (omega arith) c.loop-k.invariant)
