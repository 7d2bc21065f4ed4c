-- Bits of words that are made of others, and the lowest bit of a word.
use Rattle.std.proofs.Common.{◌≡◌, ℕ, zero, suc, ◌+◌, ◌-◌, ◌*◌, ◌/◌, ◌%◌, ◌^◌, ◌<◌, ◌≤◌, Bool, true, false, not, ◌&&◌, eqb, ltb, leb, sym, refl, ap, ◌∙◌, subst, ⊎_elim, mul_assoc, pow-suc, div-one, arith, pow_mono}
use mathlib.Core.Bool.{xor}
use lib.Bits.{bit_and, bit_xor, differ, xor_step, xor_shr, shifted_even}
use lib.Count.{count_trailing_zeros, under}
use lib.Pow.{ones_split, ones_lt}
use Rattle.std.proofs.lemmas.Nat.{pow-add, pow_pos, shl-shr, shr-shr, div_below, div-mul-add}
use Rattle.std.proofs.lemmas.Bool.{cases_lt, lt-ltb, le-ltb, le-leb, lt-leb}
use Rattle.bits.specs.Bits.{bit}
use Rattle.bits.proofs.BitFacts.{bit-bit_and}

-- the bits in which two words differ

one_differs : (a b : ℕ) → a < 2 → b < 2 → eqb (differ a b % 2) 1 ≡ xor (eqb a 1) (eqb b 1)
unfolding xor
one_differs zero zero h k = refl
one_differs zero (suc zero) h k = refl
one_differs (suc zero) zero h k = refl
one_differs (suc zero) (suc zero) h k = refl
one_differs zero (suc (suc b)) h k = absurd (omega arith)
one_differs (suc zero) (suc (suc b)) h k = absurd (omega arith)
one_differs (suc (suc a)) b h k = absurd (omega arith)

pub bit-bit_xor : (x y j : ℕ) → bit (bit_xor x y) j ≡ xor (bit x j) (bit y j)
bit-bit_xor x y j = ap (λ n. eqb n 1) low ∙ one_differs (x / 2 ^ j % 2) (y / 2 ^ j % 2) (omega arith) (omega arith)
  where
    low : bit_xor x y / 2 ^ j % 2 ≡ differ (x / 2 ^ j % 2) (y / 2 ^ j % 2) % 2
    low = rw (xor_shr x y j, xor_step (x / 2 ^ j) (y / 2 ^ j)) (omega arith)

-- the bits of one word that are not in another

difference : (a b : Bool) → xor a (a && b) ≡ (a && not b)
unfolding xor
difference true true = refl
difference true false = refl
difference false b = refl

pub bit_without : (x y j : ℕ) → bit (bit_xor x (bit_and x y)) j ≡ (bit x j && not (bit y j))
bit_without x y j = bit-bit_xor x (bit_and x y) j ∙ ap (xor (bit x j)) (bit-bit_and x y j) ∙ difference (bit x j) (bit y j)

-- the k low bits

ones_below : (m j : ℕ) → bit (2 ^ (suc m + j) - 1) j ≡ true
ones_below m j =
    let f : (2 ^ (suc m + j) - 1) / 2 ^ j ≡ 2 ^ suc m - 1 = ap (λ n. n / 2 ^ j) (ones_split (suc m) j) ∙ div-mul-add (2 ^ suc m - 1) (2 ^ j) (2 ^ j - 1) (ones_lt j) in
    let p : 0 < 2 ^ m = pow_pos m in
    let g : (2 ^ suc m - 1) % 2 ≡ 1 = rw pow-suc (omega arith) in
    rw (f, g) refl

pub bit_ones : (k j : ℕ) → bit (2 ^ k - 1) j ≡ ltb j k
bit_ones k j = ⊎_elim less more (cases_lt j k)
  where
    less : j < k → bit (2 ^ k - 1) j ≡ ltb j k
    less h = subst (λ n. bit (2 ^ n - 1) j ≡ true) (let e : suc (k - j - 1) + j ≡ k = omega arith in e) (ones_below (k - j - 1) j) ∙ sym (lt-ltb j k h)

    more : k ≤ j → bit (2 ^ k - 1) j ≡ ltb j k
    more h =
        let p : 2 ^ k ≤ 2 ^ j = pow_mono h in
        let z : 0 < 2 ^ k = pow_pos k in
        let e : (2 ^ k - 1) / 2 ^ j ≡ 0 = (let b = div_below (2 ^ k - 1) (2 ^ j) 1 (pow_pos j) (omega arith) in omega arith) in
        rw e (sym (le-ltb j k h))

-- a word without its k low bits

pub bit_from : (n k j : ℕ) → bit (n / 2 ^ k * 2 ^ k) j ≡ (leb k j && bit n j)
bit_from n k j = ⊎_elim less more (cases_lt j k)
  where
    q : ℕ
    q = n / 2 ^ k

    less : j < k → bit (q * 2 ^ k) j ≡ (leb k j && bit n j)
    less h =
        let e : k ≡ suc (k - j - 1) + j = omega arith in
        let p : q * 2 ^ k ≡ q * 2 ^ suc (k - j - 1) * 2 ^ j = ap (λ i. q * 2 ^ i) e ∙ ap (λ x. q * x) (pow-add 2 (suc (k - j - 1)) j) ∙ sym (mul_assoc q _ _) in
        ap (λ x. eqb (x / 2 ^ j % 2) 1) p ∙ ap (λ x. eqb (x % 2) 1) (shl-shr (q * 2 ^ suc (k - j - 1)) j)
        ∙ ap (λ x. eqb x 1) (shifted_even q (k - j - 1)) ∙ sym (ap (λ b. b && bit n j) (lt-leb k j h))

    more : k ≤ j → bit (q * 2 ^ k) j ≡ (leb k j && bit n j)
    more h =
        let e : k + (j - k) ≡ j = omega arith in
        let p : q * 2 ^ k / 2 ^ (k + (j - k)) ≡ n / 2 ^ (k + (j - k)) =
        sym (shr-shr (q * 2 ^ k) k (j - k)) ∙ ap (λ x. x / 2 ^ (j - k)) (shl-shr q k) ∙ shr-shr n k (j - k) in
        ap (λ x. eqb (x % 2) 1) (subst (λ i. q * 2 ^ k / 2 ^ i ≡ n / 2 ^ i) e p) ∙ sym (ap (λ b. b && bit n j) (le-leb k j h))

-- the lowest bit

bit_first : (n : ℕ) → bit n 0 ≡ eqb (n % 2) 1
bit_first n = ap (λ x. eqb (x % 2) 1) (div-one n)

bit_half : (n j : ℕ) → bit n (suc j) ≡ bit (n / 2) j
bit_half n j = let e : 1 + j ≡ suc j = omega arith in ap (λ x. eqb (x % 2) 1) (ap (λ i. n / 2 ^ i) (sym e) ∙ sym (shr-shr n 1 j))

-- of the k low bits, bit t is set and none below it
abbrev pub Lowest : ℕ → ℕ → ℕ → Type 0
Lowest k n t = (t < k) × (bit n t ≡ true) × ((j : ℕ) → j < t → bit n j ≡ false)

-- the lowest bit of a word of k bits stands above its trailing zeros, if the word isn't 0
pub trailing_lowest : (k n : ℕ) → 0 < n → n < 2 ^ k → Lowest k n (count_trailing_zeros k n)
unfolding count_trailing_zeros
trailing_lowest zero n h l = absurd (omega arith)
trailing_lowest (suc k) n h l = go (n % 2) refl (λ e. trailing_lowest k (n / 2) (omega arith) (omega (arith, pow-suc 2 k)))
  where
    t : ℕ
    t = count_trailing_zeros k (n / 2)

    below : n % 2 ≡ 0 → ((j : ℕ) → j < t → bit (n / 2) j ≡ false) → (j : ℕ) → j < suc t → bit n j ≡ false
    below e rest zero l = bit_first n ∙ ap (λ x. eqb x 1) e
    below e rest (suc j) l = bit_half n j ∙ rest j (omega arith)

    go : (r : ℕ) → n % 2 ≡ r → (n % 2 ≡ 0 → Lowest k (n / 2) t) → Lowest (suc k) n (under r t)
    go zero e half = let (within, here, rest) = half e in (omega arith, bit_half n t ∙ here, below e rest)
    go (suc r) e half =
        let one : n % 2 ≡ 1 = omega arith in
        (omega arith, bit_first n ∙ ap (λ x. eqb x 1) one, λ j l. absurd (omega arith))
