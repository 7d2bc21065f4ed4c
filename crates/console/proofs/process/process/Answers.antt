use Rattle.console.proofs.Processed.{processed, heapless}
use Rattle.console.proofs.process.process.Goals as goal

pub returns-clause-processed : goal.returns-clause-processed
returns-clause-processed g c = processed c.args.limit c.args.file.now _ _ _ _ _ _ _ _ _ _ _ _ c.in_ok-outcome.ensures.1 c.print.ensures

pub returns-clause-heapless : goal.returns-clause-heapless
returns-clause-heapless g c = heapless _ _ _ _ _ _ c.print.result c.print.ensures
