-- The runs of the table, and the answers to models.
use Rattle.std.proofs.Common.{ℕ, Ok, Err, Result, refl}
use Rattle.refusals.specs.declared.Refusal.{Refusal}
use Rattle.refusals.specs.declared.Refusal.TheVariants.{RoleAxiom, Point}
use Rattle.schemas.specs.House.{house}
use Rattle.docket.specs.declared.Docket.{Docket}
use Rattle.docket.specs.Calls.{Call, Acts}
use Rattle.docket.specs.Runs.{only}
use Rattle.facts.specs.Answers.{the_same}
use Rattle.facts.proofs.OneAnswer.{calls_have_one_answer}
use Rattle.examples.specs.Cases.{answers, Holds, AllHold}
use Rattle.examples.specs.RunCases.{claimed, without_edge, with_edge, with_role, by_chain, by_closed_chain, with_chain, run_cases, answer_cases}
use Rattle.examples.proofs.Claims.{edge_missing, one_closed, edge_fits, chain_breaks, closed_chain_fits}
use Rattle.examples.proofs.Opening.{opened_fresh}
use Rattle.examples.proofs.Running.{vocabulary_ran, lines_ran, claims_ran, closings_ran, astray_ran, roles_ran, chains_ran}
use Rattle.examples.proofs.Reaching.{all_ran, last_reached}

pub runs_hold : AllHold run_cases
runs_hold = (
  opened_fresh,
  (
    vocabulary_ran (only house),
    (
      lines_ran (only house) refl,
      (
        claims_ran (only house),
        (
          closings_ran (only house),
          (
            astray_ran (only house) refl,
            (all_ran (only house) refl, (last_reached, (roles_ran (only house), (chains_ran (only house), tt)))),
          ),
        ),
      ),
    ),
  ),
)

-- an answer that is given is the only one
the_only : (c : Call) (d e : Docket) (a : Result ℕ Refusal) → Acts c d a e → Holds (answers d c a)
the_only c d e a h = ((e, h), λ b f k. calls_have_one_answer d c c the_same b a f e k h)

pub answers_hold : AllHold answer_cases
answers_hold = (
  the_only without_edge claimed claimed (Err (Point 3)) edge_missing,
  (
    the_only with_edge claimed one_closed (Ok 0) edge_fits,
    (
      the_only by_chain with_role with_role (Err (RoleAxiom 0)) chain_breaks,
      (
        the_only by_closed_chain with_role with_chain (Ok 0) closed_chain_fits,
        tt,
      ),
    ),
  ),
)
