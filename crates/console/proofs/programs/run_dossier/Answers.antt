use Rattle.std.proofs.Common.{◌≤◌, length, take, length-take, refl, arith}
use Rattle.console.proofs.Records.{records_within}
use Rattle.console.proofs.Processed.{ended}
use Rattle.console.proofs.programs.run_dossier.Goals as goal

pub returns-clause-ended : goal.returns-clause-ended
returns-clause-ended g c =
    let n = c.in_ok-length.length in
    let file = take n c.fill.new.buffer in
    let ((few, _, _), first) = c.in_ok-length.ensures.read in
    let within : length file ≤ 16384 = omega (arith, few, length-take n c.fill.new.buffer) in
    ended 16384 256 256 _ _ _ _ file _ _ _ _ _ _ _ refl refl refl refl (records_within file 4096 within) within first c.process.ensures.processed
