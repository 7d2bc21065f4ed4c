use Rattle.std.proofs.Common.{rules, tests}
use Rattle.std.proofs.lemmas.Iterator.{first_from_Range, serves_from_Range}
use Rattle.models.specs.Items.{GoodMark}
use Rattle.models.proofs.FirstFacts.{first_number}
use Rattle.models.proofs.form.first_bad_mark.Goals as goal

pub find-requires-clause-callable : goal.find-requires-clause-callable
find-requires-clause-callable c = serves_from_Range (λ x q k. search (rules, tests)) (λ x low high. search rules)

pub returns : goal.returns
returns c =
    let m = c.args.model.now in
    first_number _ _ _ _ c.mark_chunks.ensures.many (first_from_Range _ _ _ _ (λ i. GoodMark m.marks.now m.size i → ⊥) (λ i. GoodMark m.marks.now m.size i) c.find.ensures.ran
    (λ x q k. search (rules, tests))
    (λ x q k. (search rules, search (rules, tests))))
