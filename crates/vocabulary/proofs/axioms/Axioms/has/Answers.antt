use Rattle.std.proofs.Common.{◌∙◌, ap}
use Rattle.bits.specs.Among.{among}
use Rattle.vocabulary.proofs.AxiomRows.{any_among}
use Rattle.vocabulary.proofs.axioms.Axioms.has.Goals as goal

pub returns-else-c-lt-MOST_CONCEPTS : goal.returns-else-c-lt-MOST_CONCEPTS
returns-else-c-lt-MOST_CONCEPTS c =
    c.contains.ensures.value ∙ any_among c.list.result.now c.args.c ∙ ap (λ l. among l c.args.c) c.list.ensures.items ∙ ap (λ l. among l c.args.c) c.self.view_is
