use Rattle.std.proofs.Common.{rules, subst, sym}
use Rattle.docket.specs.Questions.{SaysBelow}
use Rattle.docket.proofs.Answering.{says_below}
use Rattle.docket.proofs.Docket.is_below.Goals as goal

pub returns : goal.returns
returns c = (search rules, subst (SaysBelow c.args.self.now c.args.r c.args.s) (sym c.is_below.ensures) (says_below c.args.self.now c.args.r c.args.s))
