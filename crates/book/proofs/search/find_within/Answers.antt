use Rattle.std.proofs.Common.{◌∙◌, rules}
use Rattle.std.proofs.lemmas.Iterator.{YieldsList-from_slice}
use Rattle.std.proofs.lemmas.Iterator.Search.{position_from_yields_List}
use borrow.Author.Tests.{tests}
use Rattle.labels.proofs.LeastFacts.{position_least}
use Rattle.book.specs.declared.line.Line.{Line}
use Rattle.book.specs.Lines.{blank_line, lies_within}
use Rattle.book.proofs.search.find_within.Goals as goal

pub returns : goal.returns
returns c =
    let ls = c.args.lines.now in
    let within = λ (l : Line). lies_within l.label c.args.x.now in
    position_from_yields_List within c.position.new.self _ c.position.result c.position.ensures.ran (YieldsList-from_slice ls cc) (λ x b q k. search (rules, tests))
    ∙ position_least within ls blank_line
