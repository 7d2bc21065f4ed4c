use Rattle.std.proofs.Common.{◌≡◌, ◌*◌, ◌&&◌, leb, None}
use Rattle.bits.specs.Bits.{has}
use Rattle.labels.specs.Least.{least}
use Rattle.labels.proofs.rows.next_from.Given as goal

abbrev pub invariant-loop-w : goal.invariant-loop-w
invariant-loop-w l = least (64 * l.w) (λ k. leb l.c k && has l.row k) ≡ None
