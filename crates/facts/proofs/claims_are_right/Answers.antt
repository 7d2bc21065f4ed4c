use Rattle.facts.proofs.Claims.{claims_are_right}
use Rattle.facts.proofs.claims_are_right.Goals as goal

pub returns : goal.returns
returns c = claims_are_right
