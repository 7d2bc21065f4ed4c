use Rattle.std.proofs.Common.{◌≡◌, ℕ, ◌*◌, ◌/◌, ◌^◌, ◌≤◌, sym, ap, ◌∙◌, zero-mul, arith, pow_mono}
use Rattle.std.proofs.lemmas.Nat.{div_below, pow_pos}
use Rattle.labels.proofs.rows.without_low.Goals as goal

-- a word has no bit from 64 on
pub returns-else-k-lt64 : goal.returns-else-k-lt64
returns-else-k-lt64 c =
    let all = 2 ^ c.args.k in
    let large : 2 ^ 64 ≤ all = pow_mono {i = 64} {j = c.args.k} (omega arith) in
    let none = div_below c.args.word all 1 (pow_pos c.args.k) (omega arith) in
    let z : 0 ≡ c.args.word / all = omega arith in
    sym (zero-mul all) ∙ ap (λ (n : ℕ). n * all) z
