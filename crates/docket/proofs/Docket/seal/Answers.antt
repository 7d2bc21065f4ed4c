use Rattle.std.proofs.Common.{rules}
use Rattle.docket.proofs.Running.{stays}
use Rattle.docket.proofs.Docket.seal.Goals as goal

pub returns-clause-reached : goal.returns-clause-reached
returns-clause-reached c = stays (search rules)
