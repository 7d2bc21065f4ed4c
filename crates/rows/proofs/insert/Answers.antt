use Rattle.std.proofs.Common.{arith}
use Rattle.rows.proofs.RowFacts.{row_inserted}
use Rattle.rows.proofs.insert.Goals as goal

pub returns : goal.returns
returns c = row_inserted _ _ _ (omega arith) (omega arith)
