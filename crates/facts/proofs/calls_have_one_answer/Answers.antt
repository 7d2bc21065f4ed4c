use Rattle.facts.proofs.OneAnswer.{calls_have_one_answer}
use Rattle.facts.proofs.calls_have_one_answer.Goals as goal

pub returns : goal.returns
returns c = calls_have_one_answer
