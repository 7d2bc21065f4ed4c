use Rattle.std.proofs.Common.{rules}
use Rattle.models.proofs.WithinFacts.{word_within}
use Rattle.models.proofs.pairs.is_word_within.Goals as goal

pub returns : goal.returns
returns c = word_within _ _ (search rules)
