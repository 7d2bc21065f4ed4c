-- The three facts.
use Rattle.facts.specs.Lines.{LinesAreEmpty}
use Rattle.facts.specs.Claims.{InhabitedClaimsHaveNoLine}
use Rattle.facts.specs.TableTrees.{HouseTreesAreTaken}

-- what holds of every docket that is reached: of its lines, of its inhabited claims, and of closed
-- trees
pub record ThreeFacts : Type 0 where
  -- where the banks were sound, no standing line's label is inhabited
  pub lines_are_empty : LinesAreEmpty
  -- and where a claim is inhabited, no standing line's label lies within its label
  pub inhabited_claims_have_no_line : InhabitedClaimsHaveNoLine
  -- whatever the banks were, a sealed docket takes each tree that is closed by the table and for
  -- which there is room, if children are filed before their parents, parents cite what was answered
  -- to them, and nothing else is filed between
  pub closed_trees_are_taken : HouseTreesAreTaken
