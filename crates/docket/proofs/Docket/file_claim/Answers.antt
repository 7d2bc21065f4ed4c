use Rattle.std.proofs.Common.{rules}
use Rattle.docket.proofs.Running.{stays}
use Rattle.docket.proofs.Docket.file_claim.Goals as goal

pub returns-in_err-check_whole-clause-reached : goal.returns-in_err-check_whole-clause-reached
returns-in_err-check_whole-clause-reached c = stays (search rules)

pub returns-in_err-check_standing-clause-reached : goal.returns-in_err-check_standing-clause-reached
returns-in_err-check_standing-clause-reached c = stays (search rules)

pub returns-then-is_full-clause-reached : goal.returns-then-is_full-clause-reached
returns-then-is_full-clause-reached c = stays (search rules)

pub returns-in_err-check_rising-clause-reached : goal.returns-in_err-check_rising-clause-reached
returns-in_err-check_rising-clause-reached c = stays (search rules)

pub returns-clause-reached : goal.returns-clause-reached
returns-clause-reached c = stays (search rules)
