use Rattle.std.proofs.Common.{ℕ, ◌+◌, ◌*◌, ◌/◌, ◌%◌, get_or, ap, ◌∙◌, ap₂, arith, rules}
use lib.Bits.{bit_and}
use Rattle.bits.specs.Bits.{bit}
use Rattle.bits.proofs.Arrays.{made_at}
use Rattle.bits.proofs.BitFacts.{bit-bit_and}
use Rattle.rows.proofs.RowFacts.{row_written}
use Rattle.rows.proofs.intersect.Goals as goal

pub returns : goal.returns
returns c = row_written _ _ _ c.from_fn.result _ c.write.ensures (λ e l.
    let rows = c.args.rows.now in
    let word = λ (v : ℕ). bit_and (get_or c.row-x.result v 0) (get_or c.row-y.result v 0) in
    let made = made_at _ _ word (λ i y q k. search rules) c.from_fn.result 4 c.from_fn.ensures.items (e / 64) (omega arith) in
    let read = ap₂ bit_and (c.row-x.ensures.words (e / 64) (omega arith)) (c.row-y.ensures.words (e / 64) (omega arith)) in
    ap (λ x. bit x (e % 64)) (made ∙ read) ∙ bit-bit_and (get_or rows (4 * c.args.a + e / 64) 0) (get_or rows (4 * c.args.b + e / 64) 0) (e % 64))
