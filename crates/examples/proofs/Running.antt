-- The runs of the small dockets, with any banks among which the house may be.
use Rattle.std.proofs.Common.{◌≡◌, ℕ, zero, suc, List, [], ◌∷◌, ◌++◌, Some, None, Ok, Option, sym, refl, arith}
use Rattle.refusals.specs.Checks.{first}
use Rattle.register.specs.Registers.{room}
use Rattle.bits.specs.Below.{some_below}
use Rattle.labels.specs.Least.{least}
use Rattle.labels.specs.Labels.{row}
use Rattle.logic.specs.declared.concept.Concept.{Concept}
use Rattle.logic.specs.declared.concept.Concept.TheVariants.{Top, Name, NotName, Only, Exists}
use Rattle.logic.specs.Concepts.{tag, first_number, second_number}
use Rattle.logic.specs.Pairing.{joined}
use Rattle.logic.proofs.Mating.{mate_other}
use Rattle.closure.specs.Decide.{is_below, is_transitive}
use Rattle.vocabulary.specs.declared.mates.Mates.{Mates}
use Rattle.vocabulary.specs.Vocabularies.{theory}
use Rattle.vocabulary.specs.Mates.{mate, Joined}
use Rattle.claims.specs.declared.Status.TheVariants.{Open as Unsettled}
use Rattle.schemas.specs.House.{house}
use Rattle.book.specs.declared.filing.Draft.{Draft}
use Rattle.book.specs.Drafts.{line_of, draft_checks, Admitted}
use Rattle.book.proofs.Admitting.{checks_are_right}
use Rattle.docket.specs.declared.Docket.{Docket}
use Rattle.docket.specs.declared.phase.Phase.TheVariants.{Open, Sealed}
use Rattle.docket.specs.Dockets.{lines}
use Rattle.docket.specs.Fields.{Written}
use Rattle.docket.specs.Runs.{Banks, Lends, Ran}
use Rattle.examples.specs.SmallDocket.{no_role_axiom, role_0_transitive, no_mates, vocabulary, docket, six_concepts, two_pairs, no_pair, six, one_transitive, clash, other_clash, neighbour, cut_with, four_lines, claim_of}
use Rattle.examples.specs.RunCases.{opened, vocabulary_events, with_first, sealed, line_events, with_lines, claim_events, claimed, closing_events, with_closings, astray_events, at_last, role_events, with_role, chain_events, with_chain}
use Rattle.examples.specs.SmallTree.{asking, filings}
use Rattle.examples.proofs.Claims.{edge_missing, one_closed, edge_fits, chain_breaks, closed_chain_fits}

-- an open docket with these concepts and these mates
abbrev open_with : List Concept → List (Option ℕ) → Docket
open_with cs ms = docket Open (vocabulary no_role_axiom cs ms) [] []

abbrev one_pair : List (Option ℕ)
one_pair = Some 1 ∷ Some 0 ∷ None ∷ None ∷ None ∷ []

written : (k : Concept) → Written (tag k) (first_number k) (second_number k) k
written k = record { has_tag = refl; has_first = refl; has_second = refl }

-- the mates before the first pair, before the second, and after it
abbrev before_1 : Mates
before_1 = record { of = no_pair ++ no_mates }

abbrev before_2 : Mates
before_2 = record { of = one_pair ++ no_mates }

abbrev after_2 : Mates
after_2 = record { of = two_pairs ++ no_mates }

first_mates : (x : ℕ) → mate before_2 x ≡ joined (mate before_1) 0 1 x
first_mates zero = refl
first_mates (suc zero) = refl
first_mates (suc (suc x)) = sym (mate_other (mate before_1) 0 1 (suc (suc x)) (λ e. omega arith) (λ e. omega arith))

first_paired : Joined before_1 before_2 0 1
first_paired = (first_mates, refl)

second_mates : (x : ℕ) → mate after_2 x ≡ joined (mate before_2) 2 4 x
second_mates zero = refl
second_mates (suc zero) = refl
second_mates (suc (suc zero)) = refl
second_mates (suc (suc (suc zero))) = refl
second_mates (suc (suc (suc (suc zero)))) = refl
second_mates (suc (suc (suc (suc (suc x))))) =
    sym (mate_other (mate before_2) 2 4 (suc (suc (suc (suc (suc x))))) (λ e. omega arith) (λ e. omega arith))

second_paired : Joined before_2 after_2 2 4
second_paired = (second_mates, refl)

-- the sealed docket with the child of the small tree, and with the whole of it
abbrev with_child : Docket
with_child = docket Sealed six (line_of house other_clash ∷ []) []

abbrev with_both : Docket
with_both = docket Sealed six (line_of house other_clash ∷ line_of house (asking 0) ∷ []) []

-- a draft that no check speaks against
admitted : (d : Docket) (f : Draft) → first (draft_checks house (theory d.vocabulary) (lines d) (room d.book) f) ≡ None
    → Admitted house (theory d.vocabulary) (lines d) (room d.book) f
admitted d f h = (checks_are_right house (theory d.vocabulary) (lines d) (room d.book) f).0 h

module _ (b : Banks) where
  pub vocabulary_ran : Ran b opened vocabulary_events sealed
  vocabulary_ran = (
    open_with (Name 0 ∷ []) no_pair,
    tt,
    (refl, (Name 0, written (Name 0), ((refl, omega arith, refl, refl, refl, (_, refl)), refl), refl)),
    (
      open_with (Name 0 ∷ NotName 0 ∷ []) no_pair,
      tt,
      (refl, (NotName 0, written (NotName 0), ((refl, omega arith, refl, refl, refl, (_, refl)), refl), refl)),
      (
        open_with (Name 0 ∷ NotName 0 ∷ Only 1 1 ∷ []) no_pair,
        tt,
        (refl, (Only 1 1, written (Only 1 1), ((refl, omega arith, refl, refl, refl, (_, refl)), refl), refl)),
        (
          open_with (Name 0 ∷ NotName 0 ∷ Only 1 1 ∷ Exists 0 2 ∷ []) no_pair,
          tt,
          (refl, (Exists 0 2, written (Exists 0 2), ((refl, omega arith, refl, refl, refl, (_, refl)), refl), refl)),
          (
            open_with (Name 0 ∷ NotName 0 ∷ Only 1 1 ∷ Exists 0 2 ∷ Exists 1 0 ∷ []) no_pair,
            tt,
            (refl, (Exists 1 0, written (Exists 1 0), ((refl, omega arith, refl, refl, refl, (_, refl)), refl), refl)),
            (
              open_with six_concepts no_pair,
              tt,
              (refl, (Only 0 4, written (Only 0 4), ((refl, omega arith, refl, refl, refl, (_, refl)), refl), refl)),
              (
                open_with six_concepts one_pair,
                tt,
                (refl, ((refl, first_paired, refl), refl, refl)),
                (
                  open_with six_concepts two_pairs,
                  tt,
                  (refl, ((refl, second_paired, refl), refl, refl)),
                  (
                    sealed,
                    tt,
                    (refl, (refl, refl)),
                    refl,
                  ),
                ),
              ),
            ),
          ),
        ),
      ),
    ),
  )

  pub claims_ran : Ran b with_lines claim_events claimed
  unfolding least
  claims_ran = (
    docket Sealed six four_lines (claim_of (0 ∷ 3 ∷ []) Unsettled ∷ []),
    tt,
    (refl, ((refl, omega arith, refl, refl), refl)),
    (
      docket Sealed six four_lines (claim_of (0 ∷ 3 ∷ []) Unsettled ∷ claim_of (0 ∷ []) Unsettled ∷ []),
      tt,
      (refl, ((refl, omega arith, refl, refl), refl)),
      (
        claimed,
        tt,
        (refl, ((refl, omega arith, refl, refl), refl)),
        refl,
      ),
    ),
  )

  pub closings_ran : Ran b claimed closing_events with_closings
  unfolding least row
  closings_ran = (
    claimed,
    tt,
    edge_missing,
    (
      claimed,
      tt,
      (refl, refl),
      (
        one_closed,
        tt,
        edge_fits,
        (
          with_closings,
          tt,
          (refl, ((omega arith, refl, refl), refl, refl)),
          refl,
        ),
      ),
    ),
  )

  pub roles_ran : Ran b opened role_events with_role
  unfolding least
  roles_ran = (
    docket Open (vocabulary role_0_transitive [] no_pair) [] [],
    tt,
    (refl, (((refl, omega arith, refl), refl), refl)),
    (
      docket Open one_transitive [] [],
      tt,
      (refl, (Top, written (Top), ((refl, omega arith, refl, refl, refl, (_, refl)), refl), refl)),
      (
        docket Sealed one_transitive [] [],
        tt,
        (refl, (refl, refl)),
        (
          with_role,
          tt,
          (refl, ((refl, omega arith, refl, refl), refl)),
          refl,
        ),
      ),
    ),
  )

  pub chains_ran : Ran b with_role chain_events with_chain
  chains_ran = (
    with_role,
    tt,
    chain_breaks,
    (
      with_chain,
      tt,
      closed_chain_fits,
      refl,
    ),
  )

module _ (b : Banks) (lent : Lends b house) where
  pub lines_ran : Ran b sealed line_events with_lines
  unfolding least row some_below is_below is_transitive
  lines_ran = (
    with_first 1,
    lent,
    (refl, (admitted (with_first 0) clash refl, (refl, omega arith, refl, refl, refl, (_, refl)), refl)),
    (
      with_first 1,
      lent,
      (refl, refl),
      (
        with_first 2,
        lent,
        (refl, (admitted (with_first 1) other_clash refl, (refl, omega arith, refl, refl, refl, (_, refl)), refl)),
        (
          with_first 3,
          lent,
          (refl, (admitted (with_first 2) neighbour refl, (refl, omega arith, refl, refl, refl, (_, refl)), refl)),
          (
            with_lines,
            lent,
            (refl, (admitted (with_first 3) (cut_with 5) refl, (refl, omega arith, refl, refl, refl, (_, refl)), refl)),
            refl,
          ),
        ),
      ),
    ),
  )

  pub astray_ran : Ran b with_closings astray_events at_last
  unfolding least row
  astray_ran = (
    at_last,
    tt,
    (refl, (Only 1 4, written (Only 1 4), ((refl, omega arith, refl, refl, refl, (_, refl)), refl), refl)),
    (
      at_last,
      lent,
      (refl, refl),
      refl,
    ),
  )

  -- the two lines of the small tree, with the docket
  pub tree_ran : (e : Docket) × Ran b sealed (filings 0 (Ok 0) (Ok 1)) e
  unfolding least row some_below is_below is_transitive
  tree_ran = (
    with_both,
    (
      with_child,
      lent,
      (refl, (admitted sealed other_clash refl, (refl, omega arith, refl, refl, refl, (_, refl)), refl)),
      (
        with_both,
        lent,
        (refl, (admitted with_child (asking 0) refl, (refl, omega arith, refl, refl, refl, (_, refl)), refl)),
        refl,
      ),
    ),
  )
