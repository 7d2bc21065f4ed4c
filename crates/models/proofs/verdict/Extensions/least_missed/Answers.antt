use Rattle.std.proofs.Common.{T}
use Rattle.rows.specs.Rows.{contains}
use Rattle.models.proofs.FirstFacts.{first_behind}
use Rattle.models.proofs.verdict.Extensions.least_missed.Goals as goal

pub returns : goal.returns
returns c =
    let self = c.args.self.now in
    first_behind c.args.label.now self.count _ (λ k. T (contains self.rows.now k c.args.point)) c.min-standing.ensures c.in_default.ensures _ c.next_from.ensures
