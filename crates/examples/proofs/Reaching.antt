-- The small dockets are reached.
use Rattle.std.proofs.Common.{◌++◌}
use Rattle.logic.specs.Keeping.{Kept}
use Rattle.vocabulary.specs.Vocabularies.{theory}
use Rattle.schemas.specs.House.{house}
use Rattle.schemas.proofs.HouseLaws.{house_lawful}
use Rattle.docket.specs.Runs.{Banks, sound, Lends, Ran, Reached}
use Rattle.docket.proofs.Reaching.{reached_kept}
use Rattle.docket.proofs.Running.{ran_on}
use Rattle.examples.specs.SmallDocket.{six}
use Rattle.examples.specs.RunCases.{opened, vocabulary_events, sealed, line_events, with_lines, claim_events, claimed, closing_events, with_closings, astray_events, all_events, at_last}
use Rattle.examples.proofs.Opening.{opened_fresh}
use Rattle.examples.proofs.Running.{vocabulary_ran, lines_ran, claims_ran, closings_ran, astray_ran}

-- one run after another
pub all_ran : (b : Banks) → Lends b house → Ran b opened all_events at_last
all_ran b lent =
    ran_on b vocabulary_events (line_events ++ (claim_events ++ (closing_events ++ astray_events))) opened sealed at_last
    (vocabulary_ran b)
    (ran_on b line_events (claim_events ++ (closing_events ++ astray_events)) sealed with_lines at_last (lines_ran b lent)
    (ran_on b claim_events (closing_events ++ astray_events) with_lines claimed at_last (claims_ran b)
    (ran_on b closing_events astray_events claimed with_closings at_last (closings_ran b) (astray_ran b lent))))

pub last_reached : Reached sound at_last
last_reached = record { began = opened; fresh = opened_fresh; history = all_events; ran = all_ran sound house_lawful.is_sound }

-- the small docket when it is sealed
sealed_reached : Reached sound sealed
sealed_reached = record { began = opened; fresh = opened_fresh; history = vocabulary_events; ran = vocabulary_ran sound }

-- what its theory keeps
pub six_kept : Kept (theory six)
six_kept = reached_kept sound sealed sealed_reached
