use Rattle.std.proofs.Common.{◌/◌, arith}
use Rattle.closure.proofs.Places.{in_table}
use Rattle.closure.proofs.below.Goals as goal

pub offset_bounds-table-r : goal.offset_bounds-table-r
offset_bounds-table-r c =
    omega (
      arith,
      in_table c.args.table.now c.args.roles c.row_words-width.result c.args.r (c.args.s / 64)
          (omega arith) (omega arith) (omega arith) (omega arith),
    )

pub bounds-table-r : goal.bounds-table-r
bounds-table-r c = in_table _ c.args.roles _ _ _ (omega arith) (omega arith) (omega arith) (omega arith)
