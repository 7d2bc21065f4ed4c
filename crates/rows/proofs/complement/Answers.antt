use Rattle.std.proofs.Common.{ℕ, ◌+◌, ◌-◌, ◌*◌, ◌/◌, ◌%◌, ◌^◌, min, get_or, ap, ◌∙◌, arith, rules}
use mathlib.Core.Bool.{xor}
use lib.Bits.{bit_xor}
use Rattle.bits.specs.Bits.{bit}
use Rattle.bits.proofs.Arrays.{made_at}
use Rattle.bits.proofs.Words.{bit-bit_xor}
use Rattle.rows.proofs.RowFacts.{row_written, xor_turned, full_bit}
use Rattle.rows.proofs.complement.Goals as goal

pub returns : goal.returns
returns c = row_written _ _ _ c.from_fn.result _ c.write.ensures (λ e l.
    let n = c.args.n in
    let here = get_or c.args.rows.now (4 * c.args.c + e / 64) 0 in
    let low = λ (v : ℕ). 2 ^ min 64 (n - 64 * v) - 1 in
    let word = λ (v : ℕ). bit_xor (get_or c.row-x.result v 0) (low v) in
    let made = made_at _ _ word (λ i y q k. search rules) c.from_fn.result 4 c.from_fn.ensures.items (e / 64) (omega arith) in
    let read = ap (λ x. bit_xor x (low (e / 64))) (c.row-x.ensures.words (e / 64) (omega arith)) in
    ap (λ x. bit x (e % 64)) (made ∙ read) ∙ bit-bit_xor here (low (e / 64)) (e % 64) ∙ ap (xor (bit here (e % 64))) (full_bit n e l) ∙ xor_turned (bit here (e % 64)) _)
