use Rattle.std.proofs.Common.{sym, ap, ◌∙◌, arith}
use Rattle.bits.specs.Bits.{bit}
use Rattle.bits.proofs.Words.{trailing_lowest}
use Rattle.labels.specs.Least.{least}
use Rattle.labels.proofs.WordSearch.{lowest_none, lowest_some}
use Rattle.labels.proofs.rows.lowest.Goals as goal

pub returns-then-word-eq0 : goal.returns-then-word-eq0
returns-then-word-eq0 c = record { is = sym (ap (λ n. least 64 (bit n)) c.if-word-eq0.true ∙ lowest_none 64); below = tt }

pub returns-else-word-eq0 : goal.returns-else-word-eq0
returns-else-word-eq0 c = record {
  is = sym (lowest_some 64 c.args.word (omega arith) (omega arith));
  below = (trailing_lowest 64 c.args.word (omega arith) (omega arith)).0;
}
