use Rattle.std.proofs.Common.{◌*◌, sym, arith}
use Rattle.labels.proofs.LeastFacts.{least_none, least_below}
use Rattle.labels.proofs.WordSearch.{word_none, word_here}
use Rattle.labels.proofs.WordTests.{outside_tests}
use Rattle.labels.proofs.rows.first_outside.Goals as goal

pub loop-w-init : goal.loop-w-init
loop-w-init c = least_none _

pub loop-w-preserved : goal.loop-w-preserved
loop-w-preserved c =
    let tests = outside_tests c.args.y.now c.args.x.now c.loop-w.w in
    word_none _ c.loop-w.w _ tests c.loop-w.invariant (sym c.in_default.ensures.is)

pub returns-in-Some : goal.returns-in-Some
returns-in-Some c =
    let tests = outside_tests c.args.y.now c.args.x.now c.loop-w.w in
    sym (word_here _ c.loop-w.w c.in-Some.j _ tests (omega arith) c.loop-w.invariant (sym c.in-Some.ensures.is))

pub returns : goal.returns
returns c = sym (least_below 1024 (64 * c.loop-w.w) _ (omega arith) c.loop-w.invariant)
