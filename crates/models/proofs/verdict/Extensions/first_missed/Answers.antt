use Rattle.std.proofs.Common.{ℕ, ◌<◌, rules, tests}
use Rattle.std.proofs.lemmas.Iterator.{IsFirst-from_position, YieldsList-from_slice}
use Rattle.models.specs.Evaluation.{RowIsFull}
use Rattle.models.proofs.FirstFacts.{first_place}
use Rattle.models.proofs.verdict.Extensions.first_missed.Goals as goal

pub returns : goal.returns
returns c =
    let self = c.args.self.now in
    let Full : ℕ → Type 0 = λ c. (c < self.count) × RowIsFull self.rows.now self.size c in
    first_place Full 0 c.args.axioms.now _
    (IsFirst-from_position _ _ _ (λ c. Full c → ⊥) Full c.position.ensures.ran (YieldsList-from_slice _ c.iter.ensures.rest)
    (λ x q k. search (rules, tests)) (λ x q k. (search rules, search (rules, tests))))
