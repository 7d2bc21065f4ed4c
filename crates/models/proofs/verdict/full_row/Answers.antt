use Rattle.std.proofs.Common.{ℕ, ◌-◌, ◌*◌, ◌/◌, ◌%◌, ◌^◌, min, ap, ◌∙◌, arith, rules}
use Rattle.bits.specs.Bits.{bit}
use Rattle.bits.proofs.Arrays.{made_at}
use Rattle.rows.proofs.RowFacts.{full_bit}
use Rattle.models.proofs.verdict.full_row.Goals as goal

pub returns : goal.returns
returns c = λ e h.
    let word = λ (w : ℕ). 2 ^ min 64 (c.args.n - 64 * w) - 1 in
    let made = made_at _ _ word (λ i y q k. search rules) c.from_fn.result 4 c.from_fn.ensures.items (e / 64) (omega arith) in
    ap (λ x. bit x (e % 64)) made ∙ full_bit c.args.n e h
