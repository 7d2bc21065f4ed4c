-- Which elements of a small model lie in the concepts.
use Rattle.std.proofs.Common.{ℕ, ◌<◌, Bool, true, false, T, length, refl, arith}
use Rattle.rows.specs.Rows.{contains}
use Rattle.logic.specs.Meaning.{LiesIn}
use Rattle.bits.specs.Below.{some_below}
use Rattle.models.specs.Models.{described}
use Rattle.examples.specs.Cases.{Is, AllHold}
use Rattle.examples.specs.SmallDocket.{six_concepts, model, one_mark, one_edge, rows_with_mark}
use Rattle.examples.specs.ModelCases.{lying_cases}
use Rattle.examples.proofs.Passing.{agrees, agreed}
use Rattle.examples.proofs.Judging.{lies_as_evaluated}
use Rattle.examples.proofs.Models.{marked_formed}
use Rattle.examples.proofs.Reaching.{six_kept}

abbrev Lies : ℕ → ℕ → Type 0
Lies c e = LiesIn (described (model 2 one_mark one_edge)) six_concepts c e

lies_as_said : (c e : ℕ) (said : Bool) → c < length six_concepts → e < 2 → T (agrees (contains rows_with_mark c e) said)
    → Is (Lies c e) said
unfolding some_below
lies_as_said c e said lc le h =
    let m = model 2 one_mark one_edge in
    let evaluated = lies_as_evaluated m marked_formed six_concepts rows_with_mark refl six_kept.ordered c e lc le in
    agreed (Lies c e) (contains rows_with_mark c e) said evaluated h

pub lyings_hold : AllHold lying_cases
lyings_hold = (
  lies_as_said 0 0 true (omega arith) (omega arith) tt,
  (
    lies_as_said 1 0 false (omega arith) (omega arith) tt,
    (
      lies_as_said 2 1 false (omega arith) (omega arith) tt,
      (
        lies_as_said 3 0 false (omega arith) (omega arith) tt,
        (
          lies_as_said 4 1 true (omega arith) (omega arith) tt,
          (
            lies_as_said 5 0 true (omega arith) (omega arith) tt,
            tt,
          ),
        ),
      ),
    ),
  ),
)
