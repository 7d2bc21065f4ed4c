-- Calls on small dockets, one after another, and their answers.
use Rattle.std.specs.Prelude.{ℕ, true, false, List, [], ◌∷◌, ◌++◌, take, Ok, Err}
use Rattle.refusals.specs.declared.Refusal.TheVariants.{Absent, Inapplicable, Outside, RoleAxiom}
use Rattle.refusals.specs.declared.Refusal.TheVariants.{Point}
use Rattle.claims.specs.declared.Status.TheVariants.{Open as Unsettled, Empty, Inhabited}
use Rattle.schemas.specs.House.{house}
use Rattle.docket.specs.declared.Docket.{Docket}
use Rattle.docket.specs.declared.phase.Phase.TheVariants.{Open, Sealed}
use Rattle.docket.specs.Calls.{Call, transitivity, concept, pair, seal, line, claim, close_empty}
use Rattle.docket.specs.Calls.{close_inhabited}
use Rattle.docket.specs.Runs.{Event, called, sound, only}
use Rattle.examples.specs.Cases.{Case, admits, opens, reaches, runs, answers, returns}
use Rattle.examples.specs.SmallDocket.{bytes, no_role_axiom, vocabulary, docket, no_pair, six}
use Rattle.examples.specs.SmallDocket.{seven, one_transitive, clash, other_clash, neighbour}
use Rattle.examples.specs.SmallDocket.{cut_with, four_lines, claim_of, three_claims, model}
use Rattle.examples.specs.SmallDocket.{one_edge, chain, closed_chain, rows, rows_at_first}
use Rattle.examples.specs.SmallDocket.{rows_without_edge, rows_with_edge}

abbrev pub opened : Docket
opened = docket Open (vocabulary no_role_axiom [] no_pair) [] []

-- six concepts, two pairs and the seal
abbrev pub vocabulary_events : List Event
vocabulary_events =
    called (concept 2 0 0) (Ok 0)
    ∷ called (concept 3 0 0) (Ok 1)
    ∷ called (concept 6 1 1) (Ok 2)
    ∷ called (concept 7 0 2) (Ok 3)
    ∷ called (concept 7 1 0) (Ok 4)
    ∷ called (concept 6 0 4) (Ok 5)
    ∷ called (pair 0 1) (Ok 0)
    ∷ called (pair 2 4) (Ok 0)
    ∷ called seal (Ok 0)
    ∷ []

-- the sealed docket with the first n lines
abbrev pub with_first : ℕ → Docket
with_first n = docket Sealed six (take n four_lines) []

abbrev pub sealed : Docket
sealed = with_first 0

-- the lines; what cites line 1 is refused before line 1 stands
abbrev pub line_events : List Event
line_events =
    called (line house clash) (Ok 0)
    ∷ called (line house neighbour) (Err (Absent 4))
    ∷ called (line house other_clash) (Ok 1)
    ∷ called (line house neighbour) (Ok 2)
    ∷ called (line house (cut_with 5)) (Ok 3)
    ∷ []

abbrev pub with_lines : Docket
with_lines = with_first 4

-- claims of three labels
abbrev pub claim_events : List Event
claim_events =
    called (claim (bytes (0 ∷ 3 ∷ []))) (Ok 0)
    ∷ called (claim (bytes (0 ∷ []))) (Ok 1)
    ∷ called (claim (bytes (3 ∷ []))) (Ok 2)
    ∷ []

abbrev pub claimed : Docket
claimed = docket Sealed six four_lines (three_claims Unsettled Unsettled Unsettled)

-- two elements as a model for claim 2, without an edge and with one
abbrev pub without_edge : Call
without_edge = close_inhabited 2 (model 2 [] []) rows_at_first rows_without_edge

abbrev pub with_edge : Call
with_edge = close_inhabited 2 (model 2 [] one_edge) rows_without_edge rows_with_edge

-- without the edge the point misses concept 3, and claim 1 lacks it
abbrev pub closing_events : List Event
closing_events =
    called without_edge (Err (Point 3))
    ∷ called (close_empty 1 3) (Err (Outside 3))
    ∷ called with_edge (Ok 0)
    ∷ called (close_empty 0 3) (Ok 0)
    ∷ []

abbrev pub with_closings : Docket
with_closings = docket Sealed six four_lines (three_claims Empty Unsettled Inhabited)

-- the last line again, with another concept in the second case
abbrev pub astray_events : List Event
astray_events =
    called (concept 6 1 4) (Ok 6)
    ∷ called (line house (cut_with 6)) (Err (Inapplicable 8))
    ∷ []

-- all of it as one run
abbrev pub all_events : List Event
all_events =
    vocabulary_events ++ (line_events ++ (claim_events ++ (closing_events ++ astray_events)))

abbrev pub at_last : Docket
at_last = docket Sealed seven four_lines (three_claims Empty Unsettled Inhabited)

-- three elements as a model, in a docket with a transitive role and one concept: a chain of two
-- edges, without its shortcut and with it
abbrev pub by_chain : Call
by_chain = close_inhabited 0 (model 3 [] chain) (rows (0 ∷ [])) (rows (0 ∷ []))

abbrev pub by_closed_chain : Call
by_closed_chain = close_inhabited 0 (model 3 [] closed_chain) (rows (0 ∷ [])) (rows (7 ∷ []))

abbrev pub role_events : List Event
role_events =
    called (transitivity 0) (Ok 0)
    ∷ called (concept 0 0 0) (Ok 0)
    ∷ called seal (Ok 0)
    ∷ called (claim (bytes (0 ∷ []))) (Ok 0)
    ∷ []

abbrev pub with_role : Docket
with_role = docket Sealed one_transitive [] (claim_of (0 ∷ []) Unsettled ∷ [])

abbrev pub chain_events : List Event
chain_events = called by_chain (Err (RoleAxiom 0)) ∷ called by_closed_chain (Ok 0) ∷ []

abbrev pub with_chain : Docket
with_chain = docket Sealed one_transitive [] (claim_of (0 ∷ []) Inhabited ∷ [])

abbrev pub run_cases : List Case
run_cases =
    opens opened
    ∷ runs (only house) opened vocabulary_events sealed
    ∷ runs (only house) sealed line_events with_lines
    ∷ runs (only house) with_lines claim_events claimed
    ∷ runs (only house) claimed closing_events with_closings
    ∷ runs (only house) with_closings astray_events at_last
    ∷ runs (only house) opened all_events at_last
    ∷ reaches sound at_last
    -- the docket with a transitive role
    ∷ runs (only house) opened role_events with_role
    ∷ runs (only house) with_role chain_events with_chain
    ∷ []

-- which drafts are admitted: not one that cites a line which doesn't stand, nor one whose step
-- doesn't apply
abbrev pub draft_cases : List Case
draft_cases =
    admits sealed clash true
    ∷ admits (with_first 1) neighbour false
    ∷ admits (with_first 1) other_clash true
    ∷ admits (with_first 2) neighbour true
    ∷ admits (with_first 3) (cut_with 5) true
    ∷ admits at_last (cut_with 6) false
    ∷ []

-- what models are answered
abbrev pub answer_cases : List Case
answer_cases =
    answers claimed without_edge (Err (Point 3))
    ∷ answers claimed with_edge (Ok 0)
    ∷ answers with_role by_chain (Err (RoleAxiom 0))
    ∷ answers with_role by_closed_chain (Ok 0)
    ∷ []

-- the refusals that are met here
abbrev pub refusal_cases : List Case
refusal_cases =
    returns (Absent 4) 4 4
    ∷ returns (Inapplicable 8) 8 8
    ∷ returns (Outside 3) 11 3
    ∷ returns (RoleAxiom 0) 13 0
    ∷ returns (Point 3) 15 3
    ∷ []
