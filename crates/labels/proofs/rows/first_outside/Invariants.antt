use Rattle.std.proofs.Common.{◌≡◌, ◌*◌, not, ◌&&◌, None}
use Rattle.bits.specs.Bits.{has}
use Rattle.labels.specs.Least.{least}
use Rattle.labels.proofs.rows.first_outside.Given as goal

abbrev pub invariant-loop-w : goal.invariant-loop-w
invariant-loop-w l = least (64 * l.w) (λ c. has l.y c && not (has l.x c)) ≡ None
