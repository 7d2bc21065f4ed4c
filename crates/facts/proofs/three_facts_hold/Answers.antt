use Rattle.facts.proofs.Taking.{trees_are_taken}
use Rattle.facts.proofs.ThreeFacts.{three_facts}
use Rattle.facts.proofs.three_facts_hold.Goals as goal

pub returns : goal.returns
returns c = record { facts = three_facts; every_calculus = trees_are_taken }
