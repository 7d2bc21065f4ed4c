use Rattle.std.proofs.Common.{◌≡◌, ◌/◌, ◌<◌, length, sym, ap, ◌∙◌, subst, arith}
use Rattle.models.specs.Items.{source, target}
use Rattle.bits.specs.Below.{some_below}
use Rattle.models.proofs.PartFacts.{chunk_edge, some_of, chunk_source_small, chunk_target_small}
use Rattle.models.proofs.TableFacts.{is_pair, table_none, table_insert, table_leads}
use Rattle.models.proofs.pairs.Pairs.of.Goals as goal

pub loop-bytes-init : goal.loop-bytes-init
loop-bytes-init c =
    let edges = c.edges_of-edges.result.now in
    table_none 256 (λ k. source c.args.role (chunk_edge edges k)) (λ k. target c.args.role (chunk_edge edges k)) 1024

pub insert-requires : goal.insert-requires
insert-requires c =
    let formed = c.args.formed in
    let edges = c.edges_of-edges.result.now in
    let r = c.args.role in
    let i = c.loop-bytes.bytes-index in
    let at : c.from-edge.result ≡ chunk_edge edges i = c.from-edge.ensures in
    let s : c.source.result < 256 = subst (λ x. x < 256) (sym (c.source.ensures ∙ ap (source r) at)) (chunk_source_small formed.model.now formed.formed _ _ c.edges_of-edges.ensures r i (omega arith)) in
    (omega (arith, s, c.from-edge.array_long), subst (λ x. x < 256) (sym (c.target.ensures ∙ ap (target r) at)) (chunk_target_small formed.model.now formed.formed _ _ c.edges_of-edges.ensures r i (omega arith)))

pub loop-bytes-preserved : goal.loop-bytes-preserved
loop-bytes-preserved c =
    let edges = c.edges_of-edges.result.now in
    let r = c.args.role in
    let i = c.loop-bytes.bytes-index in
    let at : c.from-edge.result ≡ chunk_edge edges i = c.from-edge.ensures in
    table_insert 256 (λ k. source r (chunk_edge edges k)) (λ k. target r (chunk_edge edges k)) i _ _ _ _ c.loop-bytes.invariant (c.source.ensures ∙ ap (source r) at) (c.target.ensures ∙ ap (target r) at) c.insert.ensures

pub invariant_of-result : goal.invariant_of-result
invariant_of-result c =
    let m = c.args.formed.model.now in
    let edges = c.edges_of-edges.result.now in
    let r = c.args.role in
    let all : c.loop-bytes.bytes-index ≡ length edges = omega arith in
    record {
      tabled = λ x z h l.
          c.loop-bytes.invariant x z h l ∙ ap (λ i. some_below i (λ k. is_pair r x z (chunk_edge edges k))) all
          ∙ some_of m.edges.now (r / 2) edges c.edges_of-edges.ensures (is_pair r x z) ∙ table_leads m r x z;
    }
