-- The table of worked cases: what the definitions say of small cases.
use Rattle.std.specs.Prelude.{List, ◌++◌}
use Rattle.examples.specs.Cases.{Case}
use Rattle.examples.specs.RoleCases.{role_cases}
use Rattle.examples.specs.StepCases.{step_cases}
use Rattle.examples.specs.RunCases.{run_cases, draft_cases, answer_cases, refusal_cases}
use Rattle.examples.specs.ModelCases.{meeting_cases, lying_cases}

abbrev pub cases : List Case
cases =
    role_cases ++ (step_cases ++ (run_cases ++ (draft_cases ++ (answer_cases
    ++ (refusal_cases ++ (meeting_cases ++ lying_cases))))))
