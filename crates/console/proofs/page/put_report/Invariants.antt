use Rattle.std.proofs.Common.{take}
use Rattle.console.specs.Outputs.{AppendsAllBut}
use Rattle.console.specs.Reports.{reply_lines}
use Rattle.console.proofs.page.put_report.Given as goal

abbrev pub invariant-loop-i : goal.invariant-loop-i
invariant-loop-i g l =
    AppendsAllBut (g.W.Write.contents l.initial.output) (g.W.Write.contents l.output) (reply_lines 0 (take l.i l.reply-items)) l.page.bytes
