use Rattle.std.proofs.Common.{rules}
use Rattle.docket.proofs.Running.{stays}
use Rattle.docket.proofs.Docket.close_empty.Goals as goal

pub returns-in_err-claimed-clause-reached : goal.returns-in_err-claimed-clause-reached
returns-in_err-claimed-clause-reached c = stays (search rules)

pub returns-in_err-cited-clause-reached : goal.returns-in_err-cited-clause-reached
returns-in_err-cited-clause-reached c = stays (search rules)

pub returns-then-not-is_open-clause-reached : goal.returns-then-not-is_open-clause-reached
returns-then-not-is_open-clause-reached c = stays (search rules)

pub returns-in-Some-clause-reached : goal.returns-in-Some-clause-reached
returns-in-Some-clause-reached c = stays (search rules)

pub returns-clause-reached : goal.returns-clause-reached
returns-clause-reached c = stays (search rules)
