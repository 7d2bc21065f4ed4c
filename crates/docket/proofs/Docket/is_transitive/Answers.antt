use Rattle.std.proofs.Common.{rules, subst, sym}
use Rattle.docket.specs.Questions.{SaysTransitive}
use Rattle.docket.proofs.Answering.{says_transitive}
use Rattle.docket.proofs.Docket.is_transitive.Goals as goal

pub returns : goal.returns
returns c = (search rules, subst (SaysTransitive c.args.self.now c.args.r) (sym c.is_transitive.ensures) (says_transitive c.args.self.now c.args.r))
