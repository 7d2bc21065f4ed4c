use Rattle.vocabulary.proofs.RoleTables.{agree_new}
use Rattle.vocabulary.proofs.roles.Roles.new.Goals as goal

pub invariant_of-result : goal.invariant_of-result
invariant_of-result c = rw c.new.ensures (agree_new c.start.new.table c.start.ensures)
