-- A row within another, by the words of both.
use Rattle.std.proofs.Common.{◌≡◌, ℕ, ◌+◌, ◌/◌, ◌%◌, ◌*◌, ◌^◌, ◌<◌, Bool, true, false, not, ◌&&◌, T, eqb, ◌↔◌, List, get_or, sym, ap, ◌∙◌, ap₂, subst, ⊎_elim, arith, eqb→eq}
use lib.Bits.{bit_and, bit_xor}
use Rattle.std.proofs.lemmas.Bool.{true≢false, false≢true, cases_eq}
use Rattle.std.proofs.lemmas.Nat.{xor_lt, and_le_l}
use Rattle.bits.specs.Bits.{bit, has}
use Rattle.bits.proofs.BitFacts.{bit_zero}
use Rattle.bits.proofs.Words.{bit_without, trailing_lowest}
use Rattle.models.specs.Pairs.{WordWithin, Within}
use Rattle.bits.proofs.Tests.{eq_T}

-- what is left of y without x
abbrev left : ℕ → ℕ → ℕ
left y x = bit_xor y (bit_and y x)

both_or_none : (a b : Bool) → (a && not b) ≡ false → T a → T b
both_or_none true true e h = tt
both_or_none true false e h = absurd (true≢false e)
both_or_none false b e h = absurd h

left_out : (a b : Bool) → (a && not b) ≡ true → (T a → T b) → ⊥
left_out true true e f = false≢true e
left_out true false e f = f tt
left_out false b e f = false≢true e

pub word_within : (y x : ℕ) → y < 2 ^ 64 → T (eqb (left y x) 0) ↔ WordWithin y x
word_within y x h = (
  (λ t. record {
    bits = λ j l. let e : left y x ≡ 0 = eqb→eq _ _ t in both_or_none (bit y j) (bit x j) (sym (bit_without y x j) ∙ ap (λ n. bit n j) e ∙ bit_zero j);
  }),
  λ f. ⊎_elim (λ e. eq_T _ _ e) (λ n. absurd (some f n)) (cases_eq (left y x) 0),
)
  where
    some : WordWithin y x → (left y x ≡ 0 → ⊥) → ⊥
    some f n =
        let small : left y x < 2 ^ 64 = xor_lt 64 y (bit_and y x) h (omega (arith, and_le_l y x, h)) in
        let (l, here, rest) = trailing_lowest 64 (left y x) (omega (arith, n)) small in
        left_out (bit y _) (bit x _) (sym (bit_without y x _) ∙ here) (f.bits _ l)

pub row_within : (y x : List ℕ) → ((w : ℕ) → w < 4 → WordWithin (get_or y w 0) (get_or x w 0)) ↔ Within y x
row_within y x = (
  (λ f e h. (f (e / 64) (omega arith)).bits (e % 64) (omega arith)),
  λ f w h. record {
    bits = λ j l b.
        let q : (64 * w + j) / 64 ≡ w = omega arith in
        let m : (64 * w + j) % 64 ≡ j = omega arith in
        let at : (r : List ℕ) → has r (64 * w + j) ≡ bit (get_or r w 0) j = λ r. ap₂ (λ v i. bit (get_or r v 0) i) q m in
        subst T (at x) (f (64 * w + j) (omega arith) (subst T (sym (at y)) b));
  },
)
