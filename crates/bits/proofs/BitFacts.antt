-- Bits of a word, and of a row of words.
use Rattle.std.proofs.Common.{◌≡◌, ℕ, zero, suc, ◌+◌, ◌-◌, ◌*◌, ◌/◌, ◌%◌, ◌^◌, ◌<◌, ◌≤◌, min, max, true, false, ◌&&◌, ◌||◌, eqb, ◌≢◌, List, length, get_or, replicate, sym, refl, ap, ◌∙◌, subst, ⊎_elim, pow-suc, arith, pow_mono}
use mathlib.Core.Bool.{or-false, or-true}
use native.Mathlib.Nat.{zero-div}
use lib.Bits.{bit_and, bit_or, and_step, or_step, and_shr, or_shr}
use Rattle.std.proofs.lemmas.Nat.{pow-add, pow_pos, shl-shr, div_below, le-div, pow_below}
use Rattle.std.proofs.lemmas.List.{length-set, length-replicate, get_or-set_same, get_or-set_other, get_or_past, get_or-replicate}
use Rattle.std.proofs.lemmas.Bool.{cases_eq, cases_lt, eq-eqb, ne_eqb}
use Rattle.bits.specs.Bits.{bit, has, inserted}

-- a bit of a number made of others

both_one : (a b : ℕ) → a < 2 → b < 2 → eqb (min a b) 1 ≡ (eqb a 1 && eqb b 1)
both_one zero zero h k = refl
both_one zero (suc zero) h k = refl
both_one (suc zero) zero h k = refl
both_one (suc zero) (suc zero) h k = refl
both_one zero (suc (suc b)) h k = absurd (omega arith)
both_one (suc zero) (suc (suc b)) h k = absurd (omega arith)
both_one (suc (suc a)) b h k = absurd (omega arith)

either_one : (a b : ℕ) → a < 2 → b < 2 → eqb (max a b) 1 ≡ (eqb a 1 || eqb b 1)
either_one zero zero h k = refl
either_one zero (suc zero) h k = refl
either_one (suc zero) zero h k = refl
either_one (suc zero) (suc zero) h k = refl
either_one zero (suc (suc b)) h k = absurd (omega arith)
either_one (suc zero) (suc (suc b)) h k = absurd (omega arith)
either_one (suc (suc a)) b h k = absurd (omega arith)

pub bit-bit_and : (x y j : ℕ) → bit (bit_and x y) j ≡ (bit x j && bit y j)
bit-bit_and x y j = ap (λ n. eqb n 1) low ∙ both_one (x / 2 ^ j % 2) (y / 2 ^ j % 2) (omega arith) (omega arith)
  where
    low : bit_and x y / 2 ^ j % 2 ≡ min (x / 2 ^ j % 2) (y / 2 ^ j % 2)
    low = rw (and_shr x y j, and_step (x / 2 ^ j) (y / 2 ^ j)) (omega arith)

pub bit-bit_or : (x y j : ℕ) → bit (bit_or x y) j ≡ (bit x j || bit y j)
bit-bit_or x y j = ap (λ n. eqb n 1) low ∙ either_one (x / 2 ^ j % 2) (y / 2 ^ j % 2) (omega arith) (omega arith)
  where
    low : bit_or x y / 2 ^ j % 2 ≡ max (x / 2 ^ j % 2) (y / 2 ^ j % 2)
    low = rw (or_shr x y j, or_step (x / 2 ^ j) (y / 2 ^ j)) (omega arith)

pub bit_zero : (j : ℕ) → bit 0 j ≡ false
bit_zero j = ap (λ n. eqb (n % 2) 1) (zero-div (2 ^ j))

pub pow_same : (k : ℕ) → bit (2 ^ k) k ≡ true
pow_same k = let e : 2 ^ k / 2 ^ k ≡ 1 = ap (λ n. n / 2 ^ k) (let z : 2 ^ k ≡ 1 * 2 ^ k = omega arith in z) ∙ shl-shr 1 k in rw e refl

pow_above : (m j : ℕ) → bit (2 ^ (suc m + j)) j ≡ false
pow_above m j =
    let f : 2 ^ (suc m + j) / 2 ^ j ≡ 2 ^ suc m = ap (λ n. n / 2 ^ j) (pow-add 2 (suc m) j) ∙ shl-shr (2 ^ suc m) j in
    let g : 2 ^ suc m % 2 ≡ 0 = rw pow-suc (omega arith) in
    rw (f, g) refl

pub bit_pow_other : (j k : ℕ) → j ≢ k → bit (2 ^ k) j ≡ false
bit_pow_other j k d = ⊎_elim less more (cases_lt j k)
  where
    less : j < k → bit (2 ^ k) j ≡ false
    less h = subst (λ n. bit (2 ^ n) j ≡ false) (let e : suc (k - j - 1) + j ≡ k = omega arith in e) (pow_above (k - j - 1) j)

    more : k ≤ j → bit (2 ^ k) j ≡ false
    more h =
        let e : 2 ^ k / 2 ^ j ≡ 0 = (let b = div_below (2 ^ k) (2 ^ j) 1 (pow_pos j) (omega (arith, pow_below k j (omega arith))) in omega arith) in
        rw e refl

-- numbers of a row

pub length_inserted : (row : List ℕ) (c : ℕ) → length (inserted row c) ≡ length row
length_inserted row c = length-set row (c / 64) _

pub has_inserted : (row : List ℕ) (c k : ℕ) → c < 64 * length row → has (inserted row c) k ≡ (eqb c k || has row k)
has_inserted row c k h = ⊎_elim here away (cases_eq c k)
  where
    word : ℕ
    word = get_or row (c / 64) 0

    -- a bit of the word that was written
    written : (j : ℕ) → bit (get_or (inserted row c) (c / 64) 0) j ≡ (bit word j || bit (2 ^ (c % 64)) j)
    written j =
        ap (λ w. bit w j) (get_or-set_same row (c / 64) (bit_or word (2 ^ (c % 64))) 0 (div_below c 64 (length row) (omega arith) (omega arith)))
        ∙ bit-bit_or word (2 ^ (c % 64)) j

    here : c ≡ k → has (inserted row c) k ≡ (eqb c k || has row k)
    here e =
        ap (has (inserted row c)) (sym e) ∙ written (c % 64) ∙ ap (λ b. bit word (c % 64) || b) (pow_same (c % 64)) ∙ or-true (bit word (c % 64))
        ∙ sym (ap (λ b. b || has row k) (eq-eqb c k e))

    away : c ≢ k → has (inserted row c) k ≡ (eqb c k || has row k)
    away d = ⊎_elim same_word other_word (cases_eq (k / 64) (c / 64)) ∙ sym (ap (λ b. b || has row k) (ne_eqb c k d))
      where
        same_word : k / 64 ≡ c / 64 → has (inserted row c) k ≡ has row k
        same_word q =
            let n : k % 64 ≢ c % 64 = omega arith in
            ap (λ x. bit (get_or (inserted row c) x 0) (k % 64)) q ∙ written (k % 64)
            ∙ ap (λ b. bit word (k % 64) || b) (bit_pow_other (k % 64) (c % 64) n) ∙ or-false (bit word (k % 64))
            ∙ ap (λ x. bit (get_or row x 0) (k % 64)) (sym q)

        other_word : k / 64 ≢ c / 64 → has (inserted row c) k ≡ has row k
        other_word q = ap (λ w. bit w (k % 64)) (get_or-set_other row (c / 64) (k / 64) _ 0 q)

pub has_past : (row : List ℕ) (c : ℕ) → 64 * length row ≤ c → has row c ≡ false
has_past row c h = ap (λ w. bit w (c % 64)) (get_or_past {X = ℕ} row (c / 64) 0 (le-div (length row) c 64 (omega arith) (omega arith))) ∙ bit_zero (c % 64)

pub has_zeros : (n c : ℕ) → has (replicate n 0) c ≡ false
has_zeros n c = ap (λ w. bit w (c % 64)) (⊎_elim inside past (cases_lt (c / 64) n)) ∙ bit_zero (c % 64)
  where
    inside : c / 64 < n → ◌≡◌ {A = ℕ} (get_or (replicate n 0) (c / 64) 0) 0
    inside l = get_or-replicate n (c / 64) 0 0 l

    past : n ≤ c / 64 → ◌≡◌ {A = ℕ} (get_or (replicate n 0) (c / 64) 0) 0
    past l = get_or_past {X = ℕ} (replicate n 0) (c / 64) 0 (rw (length-replicate {A = ℕ} n 0) l)

-- a word of 64 bits has none from 64 on
pub bit_past : (x j : ℕ) → x < 2 ^ 64 → 64 ≤ j → bit x j ≡ false
bit_past x j small l =
    let large : 2 ^ 64 ≤ 2 ^ j = pow_mono {i = 64} {j = j} l in
    let e : x / 2 ^ j ≡ 0 = (let b = div_below x (2 ^ j) 1 (pow_pos j) (omega arith) in omega arith) in
    rw e refl
