use Rattle.std.proofs.Common.{sym, ◌∙◌, arith}
use Rattle.std.proofs.lemmas.Bool.{le-ltb}
use Rattle.bits.proofs.BitFacts.{bit_past}
use Rattle.bits.proofs.bit.Goals as goal

pub returns-else-j-lt64 : goal.returns-else-j-lt64
returns-else-j-lt64 c = le-ltb c.args.j 64 (omega arith) ∙ sym (bit_past c.args.word c.args.j (omega arith) (omega arith))
