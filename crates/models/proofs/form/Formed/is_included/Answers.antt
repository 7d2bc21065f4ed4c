use Rattle.std.proofs.Common.{[], refl, rules, tests}
use Rattle.std.proofs.lemmas.Iterator.{cases_from_all, YieldsList-from_slice}
use Rattle.models.specs.Items.{edge_at}
use Rattle.models.specs.Pairs.{PairIncluded}
use Rattle.models.proofs.FirstFacts.{all_read}
use Rattle.models.proofs.PairFacts.{pairs_included}
use Rattle.models.proofs.PartFacts.{chunk_edge, all_of}
use Rattle.models.proofs.form.Formed.is_included.Goals as goal

pub returns : goal.returns
returns c =
    let self = c.args.self.now in
    let m = self.model.now in
    let edges = c.edges_of-edges.result.now in
    let asked = PairIncluded m c.args.r c.args.s in
    all_read asked (λ b. edge_at b 0) (chunk_edge edges) [] edges _ refl (λ k h. refl) _ (all_of _ _ edges c.edges_of-edges.ensures asked _ (pairs_included m self.formed c.args.r c.args.s)) _
    (cases_from_all _ _ _ (λ b. asked (edge_at b 0)) (λ b. asked (edge_at b 0) → ⊥) c.all.ensures.ran (YieldsList-from_slice _ c.iter.ensures.rest)
    (λ x q k. search (rules, tests)) (λ x q k. search (rules, tests)))
