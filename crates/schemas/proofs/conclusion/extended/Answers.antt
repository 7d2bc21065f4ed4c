use Rattle.std.proofs.Common.{◌≡◌, ℕ, ◌&&◌, ltb, length, sym, ap, ◌∙◌, subst, arith}
use Rattle.bits.specs.Bits.{has}
use Rattle.labels.specs.Labels.{Row}
use Rattle.schemas.proofs.Extending.{filled_length, extended_row}
use Rattle.schemas.proofs.conclusion.extended.Goals as goal

pub returns : goal.returns
returns c =
    let label = c.args.at.now.label.now in
    let added = c.args.added.now in
    let all : length c.filled.result ≡ 16 = omega arith in
    let sixteen : length label ≡ 16 = sym (filled_length label added) ∙ sym (ap length c.filled.ensures) ∙ all in
    extended_row label c.filled.result added c.cut_to.result _ sixteen c.filled.ensures
    (subst (λ (n : ℕ). Row c.cut_to.result (λ k. ltb k n && has c.filled.result k)) c.len.ensures c.cut_to.ensures)
