use Rattle.std.proofs.Common.{◌∙◌, arith}
use Rattle.std.proofs.lemmas.Bool.{false≢true}
use Rattle.logic.specs.declared.concept.Concept.TheVariants.{Top}
use Rattle.models.proofs.MeaningFacts.{row_more}
use Rattle.models.proofs.form.Formed.fill_all.Goals as goal
use Rattle.models.proofs.form.Formed.fill_all.Goals.{then-refers_below, else-refers_below}

pub loop-c-preserved : goal.loop-c-preserved
loop-c-preserved c =
    elim c.if-refers_below.branch [
      | then-refers_below w ↦ rw w.rows-is (
        (λ o. row_more _ c.args.self.now.formed _ _ _ _ o (omega arith) (c.loop-c.invariant.0 o) w.fill.ensures),
        λ i h. w.fill.ensures.others i (omega arith) ∙ c.loop-c.invariant.1 i (omega arith),
      )
      | else-refers_below w ↦ rw w.rows-is (
        (λ o. absurd (false≢true (w.if-refers_below.ensures ∙ o c.loop-c.c Top (omega arith)))),
        λ i h. c.loop-c.invariant.1 i (omega arith),
      )
    ]
