use Rattle.std.proofs.Common.{ℕ, get_or, refl, arith, rules, tests}
use Rattle.std.proofs.lemmas.Iterator.{cases_from_all, YieldsList-from_range}
use Rattle.models.specs.Pairs.{WordWithin}
use Rattle.models.proofs.FirstFacts.{all_numbers}
use Rattle.models.proofs.WithinFacts.{row_within}
use Rattle.models.proofs.pairs.is_within.Goals as goal

pub returns : goal.returns
returns c =
    let P : ℕ → Type 0 = λ w. WordWithin (get_or c.args.y w 0) (get_or c.args.x w 0) in
    let all = all_numbers P 4 _ (cases_from_all _ _ _ P (λ w. P w → ⊥) c.all.ensures.ran (YieldsList-from_range 0 4 4 refl (omega arith)) (λ x q k. search (rules, tests)) (λ x q k. search (rules, tests))) in
    let row = row_within c.args.y c.args.x in
    (λ t. row.0 (all.0 t), λ w. all.1 (row.1 w))
