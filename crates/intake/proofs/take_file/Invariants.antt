use Rattle.intake.proofs.Replies.{Handed}
use Rattle.intake.proofs.take_file.Given as goal

abbrev pub invariant-loop-i : goal.invariant-loop-i
invariant-loop-i g l = Handed (g.B.Bank.calculus l.bank) l.file l.i-iterator.iter l.i-iterator.count l.initial.docket l.initial.rows l.initial.replies l.docket l.rows l.replies
