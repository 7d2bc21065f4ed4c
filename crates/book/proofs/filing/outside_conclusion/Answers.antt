use Rattle.std.proofs.Common.{not, ◌&&◌, ap, ◌∙◌}
use Rattle.std.proofs.lemmas.Bool.{lt-ltb}
use Rattle.bits.specs.Bits.{has}
use Rattle.labels.proofs.LeastFacts.{least_ext}
use Rattle.vocabulary.specs.Vocabularies.{theory}
use Rattle.book.proofs.filing.outside_conclusion.Goals as goal

pub returns : goal.returns
returns g c =
    let k = g.B.Bank.calculus c.args.bank.now in
    let t = theory c.args.v.now in
    let f = c.args.f.now in
    c.first_outside.ensures ∙ least_ext 1024 _ _ (λ e l.
    ap (λ b. has c.args.y.now e && not b) (c.conclusion-row.ensures.1 e
    ∙ ap (λ b. b && k.concludes f.rule t f.on (has c.args.x.now) c.args.i e) (lt-ltb e 1024 l)
    ∙ ap (λ x. k.concludes f.rule t f.on (has x) c.args.i e) c.requires))
