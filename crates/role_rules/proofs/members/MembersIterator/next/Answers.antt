use Rattle.std.proofs.Common.{◌∙◌, sym, arith}
use Rattle.role_rules.proofs.Walking.{next_is}
use Rattle.role_rules.proofs.members.MembersIterator.next.Goals as goal

pub overflow_add-self : goal.overflow_add-self
overflow_add-self c =
    let s = c.args.self.now in
    let n = next_is s.row s.from c.in_ok-d.d (sym c.next_from.ensures ∙ c.in_ok-d.was) in
    omega arith

pub returns-clause-goes : goal.returns-clause-goes
returns-clause-goes c =
    let s = c.args.self.now in
    let n = next_is s.row s.from c.in_ok-d.d (sym c.next_from.ensures ∙ c.in_ok-d.was) in
    record { on = λ f. (tt, tt, omega arith); keeps = tt; rests = λ f. tt }
