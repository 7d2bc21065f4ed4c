use Rattle.std.proofs.Common.{sym, ◌∙◌, ap, inl, inr}
use Rattle.closure.specs.Decide.{is_below}
use Rattle.vocabulary.proofs.RoleTables.{apart_test}
use Rattle.vocabulary.proofs.roles.Roles.is_below.Goals as goal
use Rattle.vocabulary.proofs.roles.Roles.is_below.Goals.{else-r-lt-ROLES-via-then-r-lt-ROLES+else-s-lt-ROLES, else-r-lt-ROLES-via-else-r-lt-ROLES}

pub returns-else-r-lt-ROLES : goal.returns-else-r-lt-ROLES
returns-else-r-lt-ROLES c =
    let test = apart_test c.self.inside.axioms c.self.invariant.names c.args.r c.args.s in
    let view = ap (λ l. is_below l c.args.r c.args.s) c.self.view_is in
    elim c.else-r-lt-ROLES.branch [
      | else-r-lt-ROLES-via-then-r-lt-ROLES+else-s-lt-ROLES w ↦ sym (test (inr w.if-s-lt-ROLES.false)) ∙ view
      | else-r-lt-ROLES-via-else-r-lt-ROLES w ↦ sym (test (inl w.if-r-lt-ROLES.false)) ∙ view
    ]
