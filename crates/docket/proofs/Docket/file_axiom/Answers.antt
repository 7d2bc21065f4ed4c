use Rattle.std.proofs.Common.{rules}
use Rattle.docket.proofs.Running.{stays}
use Rattle.docket.proofs.Docket.file_axiom.Goals as goal

pub returns-in_err-check_stands-clause-reached : goal.returns-in_err-check_stands-clause-reached
returns-in_err-check_stands-clause-reached c = stays (search rules)

pub returns-clause-reached : goal.returns-clause-reached
returns-clause-reached c = stays (search rules)
