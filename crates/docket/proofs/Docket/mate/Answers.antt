use Rattle.docket.specs.Runs.{any}
use Rattle.docket.proofs.Answering.{says_mate}
use Rattle.docket.proofs.Docket.mate.Goals as goal

pub returns-clause-means : goal.returns-clause-means
returns-clause-means c = says_mate any c.args.self.now c.args.c _ c.mate.ensures
