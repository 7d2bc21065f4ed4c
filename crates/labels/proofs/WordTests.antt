-- What the bits of a word say of the numbers of a row.
use Rattle.std.proofs.Common.{◌≡◌, ℕ, suc, ◌+◌, ◌-◌, ◌*◌, ◌/◌, ◌%◌, ◌^◌, ◌<◌, ◌≤◌, min, not, ◌&&◌, ltb, leb, List, get_or, sym, ap, ◌∙◌, ap₂, ⊎_elim, arith}
use mathlib.Core.Bool.{and_comm}
use lib.Bits.{bit_and, bit_xor}
use Rattle.std.proofs.lemmas.Bool.{cases_lt, le-leb, lt-leb, and_right}
use Rattle.bits.specs.Bits.{bit, has}
use Rattle.bits.proofs.BitFacts.{bit_zero, bit-bit_and}
use Rattle.bits.proofs.Words.{bit_without, bit_ones, bit_from}
use Rattle.labels.proofs.WordSearch.{Tests}

at_word : (r : List ℕ) (w j : ℕ) → j < 64 → has r (64 * w + j) ≡ bit (get_or r w 0) j
at_word r w j l =
    let q : (64 * w + j) / 64 ≡ w = omega arith in
    let m : (64 * w + j) % 64 ≡ j = omega arith in
    ap₂ (λ v i. bit (get_or r v 0) i) q m

-- the numbers of one row that are not in another

pub outside_tests : (y x : List ℕ) (w : ℕ) → Tests (bit_xor (get_or y w 0) (bit_and (get_or y w 0) (get_or x w 0))) w (λ c. has y c && not (has x c))
outside_tests y x w j l =
    let a = get_or y w 0 in
    let b = get_or x w 0 in
    bit_without a b j ∙ sym (ap₂ (λ p q. p && not q) (at_word y w j l) (at_word x w j l))

-- the numbers from c upward, and those below a count

same_leb : (a b c d : ℕ) → (a ≤ b → c ≤ d) → (b < a → d < c) → leb a b ≡ leb c d
same_leb a b c d f g = ⊎_elim (λ h. lt-leb a b h ∙ sym (lt-leb c d (g h))) (λ h. le-leb a b h ∙ sym (le-leb c d (f h))) (cases_lt b a)

pub next_tests : (r : List ℕ) (c w k word : ℕ) → k ≡ c - 64 * w → word ≡ get_or r w 0 / 2 ^ k * 2 ^ k → Tests word w (λ i. leb c i && has r i)
next_tests r c w k word e f j l =
    ap (λ n. bit n j) f ∙ bit_from (get_or r w 0) k j
    ∙ ap₂ (λ p q. p && q) (same_leb k j c (64 * w + j) (λ h. omega arith) (λ h. omega arith)) (sym (at_word r w j l))

-- and of an empty word
pub empty_tests : (r : List ℕ) (c w : ℕ) → get_or r w 0 ≡ 0 → Tests 0 w (λ i. leb c i && has r i)
empty_tests r c w e j l = bit_zero j ∙ sym (and_right (leb c (64 * w + j)) _ (at_word r w j l ∙ ap (λ n. bit n j) e ∙ bit_zero j))

pub cut_tests : (r : List ℕ) (count w k ones : ℕ) → k ≡ count - 64 * w → ones ≡ 2 ^ min 64 k - 1
    → Tests (bit_and (get_or r w 0) ones) w (λ i. ltb i count && has r i)
cut_tests r count w k ones e f j l =
    let low : bit ones j ≡ ltb (64 * w + j) count =
    ap (λ n. bit n j) f ∙ bit_ones (min 64 k) j ∙ same_leb (suc j) (min 64 k) (suc (64 * w + j)) count (λ h. omega arith) (λ h. omega arith) in
    bit-bit_and (get_or r w 0) ones j ∙ and_comm (bit (get_or r w 0) j) (bit ones j) ∙ ap₂ (λ p q. p && q) low (sym (at_word r w j l))
