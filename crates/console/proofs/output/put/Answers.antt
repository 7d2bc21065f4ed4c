use Rattle.std.proofs.Common.{◌≡◌, ◌-◌, ◌++◌, ◌∙◌, ap, length, take, drop, take-add, take_all, length-take, length-drop, sym, arith}
use Rattle.console.proofs.Writing.{append_more}
use Rattle.console.proofs.output.put.Goals as goal

pub loop-written-preserved : goal.loop-written-preserved
loop-written-preserved g c =
    let text = c.args.text.now in
    let written = c.loop-written.written in
    let more = c.in_ok-more.more in
    let rest : take (length text - written) (drop written text) ≡ drop written text =
    take_all (length text - written) (drop written text) (omega (arith, length-drop written text)) in
    let (inside, appended) = c.loop-written.invariant in (
      omega (arith, inside, c.in_ok-more.ensures.bound, length-take (length text - written) (drop written text)),
      append_more _ _ _ _ _ _ (take-add written more text ∙ ap (λ l. take written text ++ take more l) (sym rest)) appended c.in_ok-more.ensures.bytes,
    )
