use Rattle.std.proofs.Common.{sym, ◌∙◌, ap}
use Rattle.std.proofs.lemmas.Bool.{le-ltb}
use Rattle.closure.specs.Decide.{is_transitive}
use Rattle.vocabulary.proofs.RoleTables.{not_transitive}
use Rattle.vocabulary.proofs.roles.Roles.is_transitive.Goals as goal

pub returns-else-r-lt-ROLES : goal.returns-else-r-lt-ROLES
returns-else-r-lt-ROLES c =
    le-ltb c.args.r 128 c.if-r-lt-ROLES.false
    ∙ sym (not_transitive c.self.inside.axioms c.self.invariant.names c.args.r c.if-r-lt-ROLES.false)
    ∙ ap (λ l. is_transitive l c.args.r) c.self.view_is
