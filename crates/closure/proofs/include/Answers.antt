use Rattle.std.proofs.Common.{arith}
use Rattle.logic.specs.Roles.{inverse}
use Rattle.closure.specs.Closure.{PairAdded}
use Rattle.logic.proofs.RoleFacts.{inverse_below}
use Rattle.closure.proofs.Exactness.{exact_inclusion}
use Rattle.closure.proofs.include.Goals as goal

pub returns : goal.returns
returns c axioms exact =
    let second : PairAdded c.add_pair.new.table c.add_pair-2.new.table c.args.roles (inverse c.args.r) (inverse c.args.s) =
    rw (← c.inverse.ensures, ← c.inverse-2.ensures) c.add_pair-2.ensures in
    exact_inclusion _ _ _ _ _ _ axioms (omega arith) (omega arith) (inverse_below _ _ (omega arith) (omega arith)) (inverse_below _ _ (omega arith) (omega arith))
    c.add_pair.ensures second exact
