use Rattle.vocabulary.proofs.RoleTables.{agree_inclusion, agree_transitivity}
use Rattle.vocabulary.proofs.roles.Roles.file.Goals as goal

pub invariant_of-self-in-Inclusion : goal.invariant_of-self-in-Inclusion
invariant_of-self-in-Inclusion c =
    let fit = rw c.in-Inclusion.is at c.requires in
    rw (c.in_ok-number.ensures.2, c.in-Inclusion.is)
    (agree_inclusion c.self.inside.axioms c.self.inside.below c.include.new.table c.self.inside.transitive c.self.invariant
    c.in-Inclusion.r c.in-Inclusion.s fit c.include.ensures)

pub invariant_of-self-in-Transitivity : goal.invariant_of-self-in-Transitivity
invariant_of-self-in-Transitivity c =
    let fit = rw c.in-Transitivity.is at c.requires in
    rw (c.in_ok-number.ensures.2, c.in-Transitivity.is)
    (agree_transitivity c.self.inside.axioms c.self.inside.below c.self.inside.transitive c.self.invariant c.in-Transitivity.r fit)
