-- The three facts, proved.
use Rattle.facts.specs.Facts.{ThreeFacts}
use Rattle.facts.proofs.Emptiness.{lines_are_empty}
use Rattle.facts.proofs.Claims.{inhabited_claims_have_no_line}
use Rattle.facts.proofs.HouseTrees.{house_trees_are_taken}

pub three_facts : ThreeFacts
three_facts = record {
  lines_are_empty = lines_are_empty;
  inhabited_claims_have_no_line = inhabited_claims_have_no_line;
  closed_trees_are_taken = house_trees_are_taken;
}
