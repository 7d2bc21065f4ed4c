use Rattle.std.proofs.Common.{◌-◌, ◌*◌, ◌^◌, min, ◌&&◌, ltb, get_or, bit_and, refl, rules}
use Rattle.bits.specs.Bits.{has}
use Rattle.bits.proofs.Arrays.{made_at}
use Rattle.labels.proofs.WordTests.{cut_tests}
use Rattle.labels.proofs.WordWriting.{words_row}
use Rattle.labels.proofs.rows.cut_to.Goals as goal

pub returns : goal.returns
returns c =
    let r = c.args.row.now in
    let n = c.args.count in
    words_row c.from_fn.result (λ i. ltb i n && has r i) c.from_fn.ensures.items.long (λ w l.
    rw (made_at _ _ (λ w. bit_and (get_or r w 0) (2 ^ min 64 (n - 64 * w) - 1)) (λ i y q k. search rules) c.from_fn.result 16 c.from_fn.ensures.items w l)
    (cut_tests r n w _ _ refl refl))
