use Rattle.std.proofs.Common.{eqb}
use Rattle.rows.specs.Rows.{RowBecomes}
use Rattle.models.specs.Items.{mark_element, mark_name}
use Rattle.models.proofs.WalkFacts.{walked}
use Rattle.models.proofs.form.Formed.walk_named.Given as goal

abbrev pub invariant-loop-bytes : goal.invariant-loop-bytes
invariant-loop-bytes l =
    let ms = l.self.model.now.marks.now in
    RowBecomes l.initial.rows l.rows l.c (λ e. walked (λ k. eqb (mark_name ms k) l.name) (λ k. mark_element ms k) l.bytes-index e)
