-- A search through the numbers of a row, word by word.
use Rattle.std.proofs.Common.{◌≡◌, ℕ, ◌+◌, ◌-◌, ◌*◌, ◌^◌, ◌<◌, ◌≤◌, Bool, false, Some, None, sym, ap, ◌∙◌, ⊎_elim, arith}
use lib.Count.{count_trailing_zeros}
use Rattle.std.proofs.lemmas.Bool.{cases_lt}
use Rattle.bits.specs.Bits.{bit}
use Rattle.bits.proofs.BitFacts.{bit_zero}
use Rattle.bits.proofs.Words.{trailing_lowest}
use Rattle.labels.specs.Least.{least}
use Rattle.labels.proofs.LeastFacts.{least_here, least_all, all_least, least_some}

-- the lowest bit of a word

pub lowest_none : (k : ℕ) → least k (bit 0) ≡ None
lowest_none k = all_least k (bit 0) (λ j l. bit_zero j)

pub lowest_some : (k n : ℕ) → 0 < n → n < 2 ^ k → least k (bit n) ≡ Some (count_trailing_zeros k n)
lowest_some k n h l =
    let (within, here, rest) = trailing_lowest k n h l in
    least_here k (count_trailing_zeros k n) (bit n) (all_least (count_trailing_zeros k n) (bit n) rest) here within

-- bit j of the word is the test of number 64 w + j
abbrev pub Tests : ℕ → ℕ → (ℕ → Bool) → Type 0
Tests word w test = (j : ℕ) → j < 64 → bit word j ≡ test (64 * w + j)

-- nothing before this word, nor among its n low bits
word_part : (word w n : ℕ) (test : ℕ → Bool) → Tests word w test → least (64 * w) test ≡ None → n ≤ 64
    → ((j : ℕ) → j < n → bit word j ≡ false) → least (64 * w + n) test ≡ None
word_part word w n test tests before l none = all_least (64 * w + n) test (λ c h. ⊎_elim (least_all (64 * w) test before c) (here c h) (cases_lt c (64 * w)))
  where
    here : (c : ℕ) → c < 64 * w + n → 64 * w ≤ c → test c ≡ false
    here c h k =
        let j = c - 64 * w in
        let e : c ≡ 64 * w + j = omega arith in
        ap test e ∙ sym (tests j (omega arith)) ∙ none j (omega arith)

-- nothing so far, nor in this word
pub word_none : (word w : ℕ) (test : ℕ → Bool) → Tests word w test → least (64 * w) test ≡ None → least 64 (bit word) ≡ None
    → least (64 * (w + 1)) test ≡ None
word_none word w test tests before none =
    let e : 64 * (w + 1) ≡ 64 * w + 64 = omega arith in
    ap (λ n. least n test) e ∙ word_part word w 64 test tests before (omega arith) (least_all 64 (bit word) none)

-- nothing so far, but in this word
pub word_here : (word w j : ℕ) (test : ℕ → Bool) → Tests word w test → w < 16 → least (64 * w) test ≡ None → least 64 (bit word) ≡ Some j
    → least 1024 test ≡ Some (64 * w + j)
word_here word w j test tests l before some =
    let (within, here, rest) = least_some 64 j (bit word) some in
    least_here 1024 (64 * w + j) test (word_part word w j test tests before (omega arith) rest) (sym (tests j within) ∙ here) (omega arith)
