use Rattle.rows.specs.Rows.{contains, RowBecomes}
use Rattle.models.specs.Items.{source}
use Rattle.models.proofs.PartFacts.{chunk_edge}
use Rattle.models.proofs.WalkFacts.{walked, hits}
use Rattle.models.proofs.form.Formed.fill_reaching.Given as goal

abbrev pub invariant-loop-bytes : goal.invariant-loop-bytes
invariant-loop-bytes l =
    let hit = hits l.role l.outside (contains l.initial.rows l.b) in
    RowBecomes l.initial.rows l.rows l.c (λ e. walked (λ k. hit (chunk_edge l.edges k)) (λ k. source l.role (chunk_edge l.edges k)) l.bytes-index e)
