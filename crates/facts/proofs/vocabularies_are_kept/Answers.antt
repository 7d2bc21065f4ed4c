use Rattle.docket.proofs.Reaching.{reached_bounded}
use Rattle.facts.proofs.vocabularies_are_kept.Goals as goal

pub returns : goal.returns
returns c = λ b d r. let k = reached_bounded b d r in (k.kept, k.small)
