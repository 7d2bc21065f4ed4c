use Rattle.book.proofs.Admitting.{checks_are_right}
use Rattle.book.proofs.filing.checks_are_right.Goals as goal

pub returns : goal.returns
returns c = checks_are_right
