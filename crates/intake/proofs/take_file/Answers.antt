use Rattle.std.proofs.Common.{◌≤◌, length, sym, refl, ◌∙◌, subst, arith}
use Rattle.records.proofs.Offsets.{passed_none, passed_all}
use Rattle.facts.proofs.Claims.{claims_are_right}
use Rattle.facts.proofs.ThreeFacts.{three_facts}
use Rattle.intake.proofs.Joining.{filed_trees_are_taken}
use Rattle.intake.proofs.Replies.{handed_room, handed_more, taken_all, taken_reached}
use Rattle.intake.proofs.take_file.Goals as goal

pub returns-then-replies-total-clause-facts : goal.returns-then-replies-total-clause-facts
returns-then-replies-total-clause-facts g c = three_facts

pub returns-then-replies-total-clause-claims : goal.returns-then-replies-total-clause-claims
returns-then-replies-total-clause-claims g c = claims_are_right

pub returns-then-replies-total-clause-trees : goal.returns-then-replies-total-clause-trees
returns-then-replies-total-clause-trees g c = filed_trees_are_taken

pub loop-i-init : goal.loop-i-init
loop-i-init g c =
    rw (c.into_iter-i-iterator.ensures.into_iter_gives, c.enumerate-i-items.ensures.source, c.enumerate-i-items.ensures.count, c.new.ensures.0, c.new.ensures.1)
    record { file = refl; passed = passed_none c.args.file.now; taken = λ ss e new rest. rest; behind = refl }

pub offset_bounds-replies-i : goal.offset_bounds-replies-i
offset_bounds-replies-i g c =
    let (gave, is, more, fits) = c.in-Some.ensures.steps in
    omega (arith, is, handed_room c.in-Some.frame c.loop-i.invariant gave c.count-total.ensures.counted (omega arith))

pub bounds-replies-i : goal.bounds-replies-i
bounds-replies-i g c =
    let (gave, is, more, fits) = c.in-Some.ensures.steps in
    omega (arith, is, handed_room c.in-Some.frame c.loop-i.invariant gave c.count-total.ensures.counted (omega arith))

pub loop-i-preserved : goal.loop-i-preserved
loop-i-preserved g c =
    let (gave, is, more, fits) = c.in-Some.ensures.steps in
    rw (is, more) (handed_more c.in-Some.frame c.take.result c.loop-i.invariant gave (handed_room c.in-Some.frame c.loop-i.invariant gave c.count-total.ensures.counted (omega arith)) c.take.ensures.takes)

pub returns : goal.returns
returns g c =
    let k = g.B.Bank.calculus c.args.bank.now in
    let f = c.args.file.now in
    let n = c.loop-i.i-iterator.count in
    let i = c.loop-i.i-iterator.iter.at in
    let h = c.loop-i.invariant in
    let end : length f ≤ i = subst (λ x. length x ≤ i) h.file c.in-None.ensures.steps.0.0 in
    let (offsets, lie, counted) = c.count-total.ensures.counted in
    let total = counted ∙ sym (passed_all f n i end h.passed offsets lie) in
    let all = taken_all k f i c.args.docket.now c.loop-i.docket c.args.rows.now c.loop-i.rows _ end h.taken in
    record {
      taken = (c.count-total.ensures.counted, omega arith, rw total all, rw total h.behind);
      reached = λ b lends. taken_reached b k lends f 0 c.args.docket.now c.loop-i.docket c.args.rows.now c.loop-i.rows _ all;
      facts = three_facts;
      trees = filed_trees_are_taken;
      claims = claims_are_right;
    }
