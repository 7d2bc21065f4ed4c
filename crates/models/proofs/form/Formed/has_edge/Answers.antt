use Rattle.std.proofs.Common.{◌∙◌, rules}
use Rattle.std.proofs.lemmas.Fn.{always_returns_same}
use Rattle.models.specs.Items.{edge_at}
use Rattle.models.proofs.SearchFacts.{found}
use Rattle.models.proofs.form.Formed.has_edge.Goals as goal

pub returns : goal.returns
returns c =
    let s = c.binary_search_by_key-found.ensures in
    c.is_ok.ensures.value ∙ found c.args.self.now.model.now c.args.self.now.formed _ c.edge_chunks-edges.ensures c.args.edge _ s.bound
    (s.position (λ bytes. edge_at bytes 0) (always_returns_same _ _ _ (λ a r f k. (search rules, search rules))))
