use Rattle.std.proofs.Common.{◌≤◌, length, take, length-take, refl, arith}
use Rattle.console.proofs.Processed.{ended}
use Rattle.console.proofs.Records.{same_count}
use Rattle.console.proofs.programs.read_wide.Goals as goal

pub returns : goal.returns
returns g c =
    let n = c.in_ok-filled.filled in
    let file = take n c.fill.new.buffer in
    let ((few, _, _), first) = c.in_ok-filled.ensures.read in
    let within : length file ≤ length c.args.buffer.now = omega (arith, few, length-take n c.fill.new.buffer) in
    ended (length c.args.buffer.now) 1024 4096 _ _ _ _ file _ _ _ _ _ _ _ refl refl refl refl (same_count file _ c.count.ensures.counted c.count.ensures.law) within first c.process_wide.ensures
