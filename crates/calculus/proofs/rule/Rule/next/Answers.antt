use Rattle.bits.specs.Bits.{has}
use Rattle.vocabulary.specs.Vocabularies.{theory}
use Rattle.std.proofs.Common.{◌&&◌, leb, ap, ◌∙◌}
use Rattle.std.proofs.lemmas.Bool.{lt-ltb}
use Rattle.labels.proofs.LeastFacts.{least_ext}
use Rattle.calculus.proofs.rule.Rule.next.Goals as goal

pub returns : goal.returns
returns g c = c.next_from.ensures ∙ least_ext 1024 _ _ (λ k l.
    ap (λ b. leb c.args.c k && b) (c.conclusion-row.ensures.1 k ∙ ap (λ b. b && (g.Self.Rule.schema c.args.self.now).concludes (theory c.args.at.now.vocabulary.now) c.args.at.now.on (has c.args.at.now.label.now) c.args.i k) (lt-ltb k 1024 l)))
