use Rattle.std.proofs.Common.{List, [], ◌∷◌, ◌++◌}
use Rattle.examples.specs.Cases.{Case, AllHold}
use Rattle.examples.specs.RoleCases.{role_cases}
use Rattle.examples.specs.StepCases.{step_cases}
use Rattle.examples.specs.RunCases.{run_cases, draft_cases, answer_cases, refusal_cases}
use Rattle.examples.specs.ModelCases.{meeting_cases, lying_cases}
use Rattle.examples.proofs.Passing.{roles_hold, refusals_hold, meetings_hold}
use Rattle.examples.proofs.Steps.{steps_hold}
use Rattle.examples.proofs.Runs.{runs_hold, answers_hold}
use Rattle.examples.proofs.Drafting.{drafts_hold}
use Rattle.examples.proofs.Lying.{lyings_hold}
use Rattle.examples.proofs.Taking.{small_tree_holds}
use Rattle.examples.proofs.examples_hold.Goals as goal

all_append : (cs ds : List Case) → AllHold cs → AllHold ds → AllHold (cs ++ ds)
all_append [] ds p q = q
all_append (c ∷ cs) ds p q = (p.0, all_append cs ds p.1 q)

abbrev models : List Case
models = meeting_cases ++ lying_cases

abbrev answers : List Case
answers = answer_cases ++ (refusal_cases ++ models)

pub returns-clause-table : goal.returns-clause-table
returns-clause-table c =
    all_append role_cases (step_cases ++ (run_cases ++ (draft_cases ++ answers))) roles_hold
    (all_append step_cases (run_cases ++ (draft_cases ++ answers)) steps_hold
    (all_append run_cases (draft_cases ++ answers) runs_hold
    (all_append draft_cases answers drafts_hold
    (all_append answer_cases (refusal_cases ++ models) answers_hold
    (all_append refusal_cases models refusals_hold
    (all_append meeting_cases lying_cases meetings_hold lyings_hold))))))

pub returns-clause-tree : goal.returns-clause-tree
returns-clause-tree c = small_tree_holds
