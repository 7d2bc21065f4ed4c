-- Which drafts are admitted, by the rows.
use Rattle.std.proofs.Common.{◌≡◌, ℕ, Some, None, refl, arith}
use Rattle.refusals.specs.Checks.{first}
use Rattle.register.specs.Registers.{room}
use Rattle.labels.specs.Least.{least}
use Rattle.labels.specs.Labels.{row}
use Rattle.bits.specs.Below.{some_below}
use Rattle.closure.specs.Decide.{is_below, is_transitive}
use Rattle.logic.specs.Theories.{Theory}
use Rattle.vocabulary.specs.Vocabularies.{theory}
use Rattle.schemas.specs.House.{house}
use Rattle.book.specs.declared.filing.Draft.{Draft}
use Rattle.book.specs.Drafts.{draft_checks, Admitted}
use Rattle.book.proofs.Admitting.{checks_are_right}
use Rattle.docket.specs.declared.Docket.{Docket}
use Rattle.docket.specs.Dockets.{lines}
use Rattle.examples.specs.Cases.{AllHold}
use Rattle.examples.specs.SmallDocket.{clash, other_clash, neighbour, cut_with}
use Rattle.examples.specs.RunCases.{sealed, with_first, at_last, draft_cases}

module _ (d : Docket) (f : Draft) where
  abbrev t : Theory
  t = theory d.vocabulary

  admitted : first (draft_checks house t (lines d) (room d.book) f) ≡ None → Admitted house t (lines d) (room d.book) f
  admitted h = (checks_are_right house t (lines d) (room d.book) f).0 h

  refused : (x : ℕ × ℕ) → first (draft_checks house t (lines d) (room d.book) f) ≡ Some x
      → Admitted house t (lines d) (room d.book) f → ⊥
  refused x h a =
      let e = (checks_are_right house t (lines d) (room d.book) f).1 a in
      let z : ◌≡◌ {A = ℕ} 0 1 = cc in
      omega arith

pub drafts_hold : AllHold draft_cases
unfolding least row some_below is_below is_transitive
drafts_hold = (
  admitted sealed clash refl,
  (
    refused (with_first 1) neighbour (4, 4) refl,
    (
      admitted (with_first 1) other_clash refl,
      (
        admitted (with_first 2) neighbour refl,
        (
          admitted (with_first 3) (cut_with 5) refl,
          (
            refused at_last (cut_with 6) (8, 8) refl,
            tt,
          ),
        ),
      ),
    ),
  ),
)
