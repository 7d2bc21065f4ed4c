use Rattle.std.proofs.Common.{◌≡◌, ℕ, ◌+◌, ◌<◌, length, subst, sym, ap, ◌∙◌, arith}
use Rattle.models.specs.Items.{edges_in, edge_role}
use Rattle.models.specs.EdgeParts.{PartsOf, with_part}
use Rattle.models.proofs.PartFacts.{Walked, roles_rise_by_place, walk_begins, walk_on, walk_over, all_parts}
use Rattle.models.proofs.edge_parts.edge_parts.Goals as goal
use Rattle.models.proofs.edge_parts.edge_parts.Goals.{then-next-name, else-next-name}

pub loop-i-init : goal.loop-i-init
loop-i-init c = walk_begins c.args.model.now.edges.now

pub loop-i-preserved : goal.loop-i-preserved
loop-i-preserved c =
    let m = c.args.model.now in
    let es = m.edges.now in
    let are = c.edge_chunks-edges.ensures in
    let i = c.loop-i.i in
    let many = are.many in
    let listed : i < edges_in es = omega (arith, c.loop-i-test.true) in
    let at : edge_role es i ≡ c.from-next.result.role_name = sym (ap (λ e. e.role_name) (c.from-next.ensures ∙ are.reads i _ listed)) in
    let small = (c.requires.good_edges i listed).role_in_range in
    elim c.if-next-name.branch [
      | then-next-name w ↦ rw (w.parts-is, w.name-is, w.start-is)
          (subst (λ ps. Walked es (i + 1) c.from-next.result.role_name i ps) (sym w.set_part.ensures)
          (walk_over es i c.loop-i.name c.loop-i.start c.loop-i.parts c.loop-i.invariant (roles_rise_by_place m _ c.requires are) _ listed at w.if-next-name.true))
      | else-next-name w ↦ rw (w.parts-is, w.name-is, w.start-is)
          (walk_on es i c.loop-i.name c.loop-i.start c.loop-i.parts c.loop-i.invariant (at ∙ w.if-next-name.false) (omega (arith, at, small, w.if-next-name.false)))
    ]

pub returns : goal.returns
returns c =
    let es = c.args.model.now.edges.now in
    let many = c.edge_chunks-edges.ensures.many in
    let whole : c.loop-i.i ≡ edges_in es = omega (arith, c.loop-i-test.false, c.loop-i.auto) in
    let ended : c.loop-i.i ≡ length c.edge_chunks-edges.result.now = omega (arith, whole) in
    subst (λ ps. PartsOf es (edges_in es) ps)
    (ap (λ e. with_part c.loop-i.parts c.loop-i.name (record { start = c.loop-i.start; end = e })) ended ∙ sym c.set_part-2.ensures)
    (subst (λ n. PartsOf es n (with_part c.loop-i.parts c.loop-i.name (record { start = c.loop-i.start; end = c.loop-i.i }))) whole
    (all_parts es c.loop-i.i c.loop-i.name c.loop-i.start c.loop-i.parts c.loop-i.invariant))
