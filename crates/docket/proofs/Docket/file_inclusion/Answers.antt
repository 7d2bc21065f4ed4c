use Rattle.std.proofs.Common.{rules}
use Rattle.docket.proofs.Running.{stays}
use Rattle.docket.proofs.Docket.file_inclusion.Goals as goal

pub returns-in_err-check_role-clause-reached : goal.returns-in_err-check_role-clause-reached
returns-in_err-check_role-clause-reached c = stays (search rules)

pub returns-in_err-check_role-2-clause-reached : goal.returns-in_err-check_role-2-clause-reached
returns-in_err-check_role-2-clause-reached c = stays (search rules)

pub returns-clause-reached : goal.returns-clause-reached
returns-clause-reached c = stays (search rules)
