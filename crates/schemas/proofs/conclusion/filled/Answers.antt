use Rattle.std.proofs.Common.{ℕ, ◌+◌, List, drop, sym, ap, ◌∙◌, arith}
use Rattle.std.proofs.lemmas.List.{at_drop_more, at_drop_all}
use Rattle.labels.specs.Labels.{filled}
use Rattle.schemas.proofs.conclusion.filled.Goals as goal

pub loop-c-preserved : goal.loop-c-preserved
loop-c-preserved c =
    let added = c.args.added.now in
    let i = c.loop-c.c-index in
    ap (λ w. filled w (drop (i + 1) added)) c.insert.ensures ∙ sym (at_drop_more (λ (xs : List ℕ). filled c.loop-c.all xs) added i 0 (omega arith))
    ∙ c.loop-c.invariant

pub returns : goal.returns
returns c = sym (at_drop_all (λ (xs : List ℕ). filled c.loop-c.all xs) c.args.added.now c.loop-c.c-index (omega arith)) ∙ c.loop-c.invariant
