use Rattle.std.proofs.Common.{sym, ◌∙◌, arith}
use Rattle.closure.proofs.Pairs.{pair_then, pair_else}
use Rattle.closure.proofs.add_pair.Goals as goal
use Rattle.closure.proofs.add_pair.Goals.{then-below, else-below}

pub loop-i-preserved : goal.loop-i-preserved
loop-i-preserved c =
    elim c.if-below.branch [
      | then-below w ↦ rw w.table-is (pair_then _ _ _ _ _ _ _ (omega arith) (omega arith) (omega arith) c.loop-i.invariant
          (sym c.below.ensures ∙ w.if-below.true) w.join_row.ensures)
      | else-below w ↦ rw w.table-is (pair_else _ _ _ _ _ _ (omega arith) (omega arith) c.loop-i.invariant (sym c.below.ensures ∙ w.if-below.false))
    ]
