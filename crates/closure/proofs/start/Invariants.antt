use Rattle.std.proofs.Common.{◌≡◌, ℕ, ◌/◌, ◌%◌, ◌<◌, get_or}
use Rattle.closure.specs.Closure.{row_words, own_word}
use Rattle.closure.proofs.start.Given as goal

abbrev pub invariant-loop-at : goal.invariant-loop-at
invariant-loop-at l = (k : ℕ) → k < l.at → get_or l.table k 0 ≡ own_word (k / row_words l.roles) (k % row_words l.roles)
