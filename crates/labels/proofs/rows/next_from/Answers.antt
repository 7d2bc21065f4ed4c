use Rattle.std.proofs.Common.{◌*◌, ◌/◌, sym, arith}
use Rattle.std.proofs.lemmas.Bool.{lt-leb, and_left}
use Rattle.labels.proofs.LeastFacts.{all_least, least_below}
use Rattle.labels.proofs.WordSearch.{lowest_none, word_none, word_here}
use Rattle.labels.proofs.WordTests.{next_tests, empty_tests}
use Rattle.labels.proofs.rows.next_from.Goals as goal

pub loop-w-init : goal.loop-w-init
loop-w-init c = all_least (64 * (c.args.c / 64)) _ (λ k l. and_left _ _ (lt-leb c.args.c k (omega arith)))

pub loop-w-preserved-then-row-w-eq0 : goal.loop-w-preserved-then-row-w-eq0
loop-w-preserved-then-row-w-eq0 c =
    word_none 0 c.loop-w.w _ (empty_tests c.args.row.now c.args.c c.loop-w.w c.if-row-w-eq0.true) c.loop-w.invariant (lowest_none 64)

pub loop-w-preserved : goal.loop-w-preserved
loop-w-preserved c =
    let tests = next_tests c.args.row.now c.args.c c.loop-w.w _ _ c.saturating_sub.ensures c.without_low.ensures in
    word_none _ c.loop-w.w _ tests c.loop-w.invariant (sym c.in_default.ensures.is)

pub returns-in-Some : goal.returns-in-Some
returns-in-Some c =
    let tests = next_tests c.args.row.now c.args.c c.loop-w.w _ _ c.saturating_sub.ensures c.without_low.ensures in
    sym (word_here _ c.loop-w.w c.in-Some.j _ tests (omega arith) c.loop-w.invariant (sym c.in-Some.ensures.is))

pub returns : goal.returns
returns c = sym (least_below 1024 (64 * c.loop-w.w) _ (omega arith) c.loop-w.invariant)
