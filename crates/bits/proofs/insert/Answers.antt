use Rattle.std.proofs.Common.{sym, arith}
use Rattle.std.proofs.lemmas.List.{set_past}
use Rattle.bits.proofs.insert.Goals as goal

pub returns-else-c-row : goal.returns-else-c-row
returns-else-c-row c = sym (set_past _ _ _ (omega arith))
