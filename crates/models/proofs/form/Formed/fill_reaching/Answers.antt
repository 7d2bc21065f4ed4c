use Rattle.std.proofs.Common.{◌≡◌, ◌/◌, ◌<◌, ◌&&◌, eqb, length, sym, ap, ◌∙◌, subst, arith, rules}
use Rattle.rows.specs.Rows.{contains, turned}
use Rattle.rows.proofs.RowFacts.{other_row}
use Rattle.models.specs.Items.{edges_in, edge_role, edge_source, edge_target, source, target}
use Rattle.bits.proofs.SomeBelow.{some_same}
use Rattle.models.proofs.PairFacts.{target_small}
use Rattle.models.proofs.PartFacts.{chunk_edge, some_of, chunk_source_small, chunk_target_small}
use Rattle.models.proofs.WalkFacts.{hits, row_as, walk_none, walk_insert, walk_skip, walk_all}
use Rattle.models.proofs.form.Formed.fill_reaching.Goals as goal
use Rattle.models.proofs.form.Formed.fill_reaching.Goals.{then-is_hit, else-is_hit}

pub loop-bytes-init : goal.loop-bytes-init
loop-bytes-init c =
    let edges = c.edges_of-edges.result.now in
    let hit = hits c.args.role c.args.outside (contains c.clear.new.rows c.args.b) in
    walk_none _ _ _ (λ k. hit (chunk_edge edges k)) (λ k. source c.args.role (chunk_edge edges k)) c.clear.ensures

pub is_hit-requires-clause-few : goal.is_hit-requires-clause-few
is_hit-requires-clause-few c =
    let self = c.args.self.now in
    subst (λ e. target c.args.role e < 256) (sym c.from-edge.ensures) (chunk_target_small self.model.now self.formed _ _ c.edges_of-edges.ensures c.args.role c.loop-bytes.bytes-index (omega arith))

pub insert-requires : goal.insert-requires
insert-requires c =
    let self = c.args.self.now in
    let at = c.from-edge.ensures in (
      search rules,
      subst (λ x. x < 256) (sym (c.source.ensures ∙ ap (source c.args.role) c.from-edge.ensures))
          (chunk_source_small self.model.now self.formed _ _ c.edges_of-edges.ensures c.args.role c.loop-bytes.bytes-index (omega arith)),
    )

pub loop-bytes-preserved : goal.loop-bytes-preserved
loop-bytes-preserved c =
    let self = c.args.self.now in
    let edges = c.edges_of-edges.result.now in
    let r = c.args.role in
    let i = c.loop-bytes.bytes-index in
    let hit = hits r c.args.outside (contains c.clear.new.rows c.args.b) in
    let at : c.from-edge.result ≡ chunk_edge edges i = c.from-edge.ensures in
    let small = chunk_target_small self.model.now self.formed _ _ c.edges_of-edges.ensures r i (omega arith) in
    let as_before = other_row _ _ _ _ c.loop-bytes.invariant c.args.b (target r (chunk_edge edges i)) (omega arith) small in
    let is_hit = ap (turned c.args.outside) (sym as_before) ∙ sym (ap (λ e. turned c.args.outside (contains c.loop-bytes.rows c.args.b (target r e))) at) in
    elim c.if-is_hit.branch [
      | then-is_hit w ↦ rw w.rows-is (walk_insert _ _ _ _ (λ k. hit (chunk_edge edges k)) (λ k. source r (chunk_edge edges k)) _ _ c.loop-bytes.invariant
          (is_hit ∙ sym w.if-is_hit.ensures) (w.source.ensures ∙ ap (source r) at) w.insert.ensures)
      | else-is_hit w ↦ rw w.rows-is (walk_skip _ _ _ (λ k. hit (chunk_edge edges k)) (λ k. source r (chunk_edge edges k)) _ c.loop-bytes.invariant (is_hit ∙ sym w.if-is_hit.ensures))
    ]

pub returns : goal.returns
returns c =
    let self = c.args.self.now in
    let es = self.model.now.edges.now in
    let edges = c.edges_of-edges.result.now in
    let r = c.args.role in
    let old = c.args.rows.now in
    let cleared = c.clear.new.rows in
    let hit = hits r c.args.outside (contains cleared c.args.b) in
    row_as _ _ _ _ _
    (walk_all old cleared _ _ (λ k. hit (chunk_edge edges k)) (λ k. source r (chunk_edge edges k)) _ (length edges) c.clear.ensures c.loop-bytes.invariant (omega arith))
    (λ e h. some_of es (r / 2) edges c.edges_of-edges.ensures (λ x. hit x && eqb (source r x) e) ∙ some_same (edges_in es) _ _
    (λ k l. ap (λ b. eqb (edge_role es k) (r / 2) && (turned c.args.outside b && eqb (edge_source es r k) e))
    (other_row old cleared _ _ c.clear.ensures c.args.b (edge_target es r k) (omega arith) (target_small self.model.now self.formed r k l))))
