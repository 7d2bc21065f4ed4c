use Rattle.std.proofs.Common.{rules, tests}
use Rattle.std.proofs.lemmas.Iterator.{first_from_Range, serves_from_Range}
use Rattle.models.specs.Items.{GoodEdge}
use Rattle.models.proofs.FirstFacts.{first_number}
use Rattle.models.proofs.form.first_bad_edge.Goals as goal

pub find-requires-clause-callable : goal.find-requires-clause-callable
find-requires-clause-callable c = serves_from_Range (λ x q k. search (rules, tests)) (λ x low high. search rules)

pub returns : goal.returns
returns c =
    let m = c.args.model.now in
    first_number _ _ _ _ c.edge_chunks.ensures.many (first_from_Range _ _ _ _ (λ i. GoodEdge m.edges.now m.size i → ⊥) (λ i. GoodEdge m.edges.now m.size i) c.find.ensures.ran
    (λ x q k. search (rules, tests))
    (λ x q k. (search rules, search (rules, tests))))
