use Rattle.docket.proofs.Running.{banks_widen}
use Rattle.facts.proofs.banks_widen.Goals as goal

pub returns : goal.returns
returns c = banks_widen
