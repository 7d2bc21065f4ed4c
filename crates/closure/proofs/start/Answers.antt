use Rattle.std.proofs.Common.{◌/◌, ◌%◌, ◌<◌, ◌≢◌, length, ap, ◌∙◌, arith, below_more}
use Rattle.std.proofs.lemmas.List.{get_or-set_same, get_or-set_other}
use Rattle.closure.specs.Closure.{own_word}
use Rattle.closure.proofs.Exactness.{exact_start}
use Rattle.closure.proofs.start.Goals as goal

pub loop-at-preserved : goal.loop-at-preserved
loop-at-preserved c =
    below_more _ _
    (λ k h. let ne : k ≢ c.loop-at.at = omega arith in rw get_or-set_other (c.loop-at.invariant k h))
    (let lt : c.loop-at.at < length c.loop-at.table = omega arith in
    rw get_or-set_same (c.own_word.ensures ∙ ap (λ w. own_word (c.loop-at.at / w) (c.loop-at.at % w)) c.row_words-width.ensures))

pub returns : goal.returns
returns c = exact_start _ _ (λ k h. c.loop-at.invariant k (omega arith))
