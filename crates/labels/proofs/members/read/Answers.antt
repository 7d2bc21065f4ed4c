use Rattle.std.proofs.Common.{◌≡◌, ℕ, ◌+◌, ◌-◌, ◌<◌, ◌≤◌, leb, ltb, List, [], length, drop, refl, sym, ap, ◌∙◌, inl, arith, length-drop}
use Rattle.file_bytes.specs.Bytes.{numbers}
use Rattle.file_bytes.proofs.Numbers.{numbers_length}
use Rattle.bits.proofs.BitFacts.{length_inserted}
use Rattle.labels.specs.Labels.{absent, falls, filled, row}
use Rattle.labels.specs.Least.{found_or, least}
use Rattle.labels.proofs.LeastFacts.{least_none, least_next, least_some}
use Rattle.labels.proofs.Walking.{walked_below, walked_here, walked_rest, floor_test}
use Rattle.labels.proofs.members.read.Goals as goal

-- the walk begins with all numbers left
all_left : (c : goal.After-into_iter-i-iterator) → (c.into_iter-i-iterator.result.count ≡ 0) × (numbers c.into_iter-i-iterator.result.iter.rest.now ≡ numbers c.args.members.now)
all_left c =
    let e = c.into_iter-i-iterator.ensures.into_iter_gives in (
      ap (λ s. s.count) e ∙ c.enumerate-i-items.ensures.count,
      ap (λ s. numbers s.iter.rest.now) e ∙ ap (λ n. numbers n.rest.now) c.enumerate-i-items.ensures.source ∙ ap (λ b. numbers b.now) c.of.ensures,
    )

pub loop-i-init-derived : goal.loop-i-init-derived
loop-i-init-derived c =
    let (none, all) = all_left c in
    ((tt, tt, inl (omega (arith, none, ap length all, numbers_length c.args.members.now))), tt)

pub loop-i-init : goal.loop-i-init
loop-i-init c =
    let ms = numbers c.args.members.now in
    let (none, all) = all_left c in
    record {
      within = rw none (omega arith);
      left = rw none all;
      absent = rw none (sym (least_none (absent c.args.count ms)));
      falling = rw none (sym (least_none (falls ms)));
      size = refl;
      filled = ap (filled _) all;
      first = λ h. cc;
      later = λ h. absurd (omega (arith, none));
    }

pub loop-i-preserved : goal.loop-i-preserved
loop-i-preserved c =
    let ms = numbers c.args.members.now in
    let k = c.loop-i.i-iterator.count in
    let v = c.loop-i.invariant in
    let (step, at, more, fits) = c.in-Some.ensures.steps in
    let below : k < length ms = walked_below ms _ _ k _ v.left step in
    let here = walked_here ms _ _ k _ v.left step in
    let tested = floor_test ms k c.in-Some.member c.loop-i.floor v.first v.later here in
    let absent-here = ap (λ x. leb c.args.count x) (sym here) in
    record {
      within = rw more (omega arith);
      left = rw more (walked_rest ms _ _ k _ v.left step);
      absent = rw more (c.or_here-absent.ensures
          ∙ ap (λ o. found_or o (leb c.args.count c.in-Some.member) c.in-Some.i) v.absent
          ∙ ap (λ b. found_or (least k (absent c.args.count ms)) b c.in-Some.i) absent-here
          ∙ ap (λ n. found_or (least k (absent c.args.count ms)) (absent c.args.count ms k) n) at
          ∙ sym (least_next k (absent c.args.count ms)));
      falling = rw more (c.or_here-falling.ensures
          ∙ ap (λ o. found_or o (ltb c.in-Some.member c.loop-i.floor) c.in-Some.i) v.falling
          ∙ ap (λ b. found_or (least k (falls ms)) b c.in-Some.i) tested
          ∙ ap (λ n. found_or (least k (falls ms)) (falls ms k) n) at
          ∙ sym (least_next k (falls ms)));
      size = ap length c.insert.ensures ∙ length_inserted c.loop-i.row c.in-Some.member ∙ v.size;
      filled = ap (λ r. filled r (numbers c.next.new.self.iter.rest.now)) c.insert.ensures ∙ sym (ap (filled c.loop-i.row) step) ∙ v.filled;
      first = λ h. absurd (omega (arith, more));
      later = λ h. let back : k + 1 - 1 ≡ k = omega arith in rw (more, back) (omega (arith, here));
    }

-- at the end nothing is left
all_read : (ms rest : List ℕ) (n : ℕ) → n ≤ length ms → rest ≡ drop n ms → rest ≡ [] → n ≡ length ms
all_read ms rest n within left none = omega (arith, length-drop n ms, ap length (sym left ∙ none))

-- a position that was found is one of the members'
pub invariant_of-result-clause-absent_fits : goal.invariant_of-result-clause-absent_fits
invariant_of-result-clause-absent_fits c i e =
    let ms = numbers c.args.members.now in
    let v = c.loop-i.invariant in
    let all = all_read ms _ _ v.within v.left c.in-None.ensures.steps.0.0 in
    let l = (least_some c.loop-i.i-iterator.count i (absent c.args.count ms) (sym v.absent ∙ e)).0 in
    omega (arith, all, numbers_length c.args.members.now)

pub invariant_of-result-clause-falling_fits : goal.invariant_of-result-clause-falling_fits
invariant_of-result-clause-falling_fits c i e =
    let ms = numbers c.args.members.now in
    let v = c.loop-i.invariant in
    let all = all_read ms _ _ v.within v.left c.in-None.ensures.steps.0.0 in
    let l = (least_some c.loop-i.i-iterator.count i (falls ms) (sym v.falling ∙ e)).0 in
    omega (arith, all, numbers_length c.args.members.now)

pub returns : goal.returns
unfolding row
returns c =
    let ms = numbers c.args.members.now in
    let v = c.loop-i.invariant in
    let rest = c.in-None.ensures.steps.0.0 in
    let all = all_read ms _ _ v.within v.left rest in
    record {
      absent = v.absent ∙ ap (λ n. least n (absent c.args.count ms)) all;
      falling = v.falling ∙ ap (λ n. least n (falls ms)) all;
      row = sym (ap (filled c.loop-i.row) rest) ∙ v.filled;
    }
