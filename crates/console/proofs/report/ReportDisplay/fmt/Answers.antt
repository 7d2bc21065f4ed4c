use Rattle.std.proofs.Common.{refl, arith}
use Rattle.std.proofs.Output.{has_written_append, has_written_of_eq}
use Rattle.console.proofs.Lines.{lines_more}
use Rattle.console.proofs.report.ReportDisplay.fmt.Goals as goal

pub loop-i-preserved : goal.loop-i-preserved
loop-i-preserved g c p = has_written_of_eq _ _ _ _ _ (lines_more c.args.self.now.replies.now c.loop-i.i _ (omega arith))
    (has_written_append _ _ _ _ _ _ (c.loop-i.invariant p) (c.in_ok-writeln.ensures.writes (c.loop-i.invariant p).plain refl))
