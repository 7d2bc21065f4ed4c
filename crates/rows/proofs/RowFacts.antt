-- A row that is written, and one element more in a row.
use Rattle.std.proofs.Common.{◌≡◌, ℕ, ◌+◌, ◌-◌, ◌*◌, ◌/◌, ◌%◌, ◌^◌, ◌<◌, min, Bool, true, false, ◌||◌, eqb, ltb, ◌≢◌, List, get_or, set, sym, refl, ap, ◌∙◌, subst, ap₂, ⊎_elim, arith, get_or-set_other}
use mathlib.Core.Bool.{xor}
use lib.Bits.{bit_or}
use Rattle.std.proofs.lemmas.Nat.{one_shl}
use Rattle.std.proofs.lemmas.Bool.{cases_eq, cases_lt, eq-eqb, ne_eqb, lt-ltb, le-ltb}
use Rattle.bits.specs.Bits.{bit, has, inserted}
use Rattle.bits.proofs.BitFacts.{has_inserted}
use Rattle.bits.proofs.Words.{bit_ones}
use Rattle.rows.specs.Rows.{HasRow, contains, turned, RowWritten, RowBecomes}

-- a row that was written has the elements of its words
pub row_written : (old new : List ℕ) (c : ℕ) (row : List ℕ) (f : ℕ → Bool) → RowWritten old new c row → ((e : ℕ) → e < 256 → bit (get_or row (e / 64) 0) (e % 64) ≡ f e)
    → RowBecomes old new c f
row_written old new c row f written bits = record {
  elements = λ e l. ap (λ x. bit x (e % 64)) (written.words (e / 64) (omega arith)) ∙ bits e l;
  others = written.others;
}

-- a bit is turned round where another is set
pub xor_turned : (a b : Bool) → xor a b ≡ turned b a
unfolding xor
xor_turned true true = refl
xor_turned true false = refl
xor_turned false true = refl
xor_turned false false = refl

-- element e in its word of the row that has the first n elements
pub full_bit : (n e : ℕ) → e < 256 → bit (2 ^ (min 64 (n - 64 * (e / 64))) - 1) (e % 64) ≡ ltb e n
full_bit n e h = bit_ones (min 64 (n - 64 * (e / 64))) (e % 64) ∙ same_test (e % 64) (min 64 (n - 64 * (e / 64))) e n (λ k. omega arith) (λ k. omega arith)
  where
    same_test : (a b c d : ℕ) → (a < b → c < d) → (c < d → a < b) → ltb a b ≡ ltb c d
    same_test a b c d f g = ⊎_elim
        (λ h. lt-ltb a b h ∙ sym (lt-ltb c d (f h)))
        (λ h. le-ltb a b h ∙ sym (le-ltb c d (let q : (c < d) → ⊥ = (λ k. let z = g k in omega arith) in omega arith)))
        (cases_lt a b)

-- element e of row c is number 256c + e of all the words together
pub contains_has : (rows : List ℕ) (c e : ℕ) → e < 256 → contains rows c e ≡ has rows (256 * c + e)
contains_has rows c e h = ap₂ (λ i j. bit (get_or rows i 0) j) (let p : 4 * c + e / 64 ≡ (256 * c + e) / 64 = omega arith in p) (let p : e % 64 ≡ (256 * c + e) % 64 = omega arith in p)

-- a row with one element more
pub row_inserted : (rows : List ℕ) (c e : ℕ) → HasRow rows c → e < 256 →
    RowBecomes rows (set rows (4 * c + e / 64) (bit_or (get_or rows (4 * c + e / 64) 0) ((1 * 2 ^ (e % 64)) % 2 ^ 64))) c (λ x. eqb e x || contains rows c x)
row_inserted rows c e l h = rw (one_shl (e % 64) 64 (omega arith)) (subst (λ new. RowBecomes rows new c (λ x. eqb e x || contains rows c x)) same whole)
  where
    same : inserted rows (256 * c + e) ≡ set rows (4 * c + e / 64) (bit_or (get_or rows (4 * c + e / 64) 0) (2 ^ (e % 64)))
    same = ap₂ (λ i j. set rows i (bit_or (get_or rows i 0) (2 ^ j))) (let p : (256 * c + e) / 64 ≡ 4 * c + e / 64 = omega arith in p) (let p : (256 * c + e) % 64 ≡ e % 64 = omega arith in p)

    test : (x : ℕ) → eqb (256 * c + e) (256 * c + x) ≡ eqb e x
    test x = ⊎_elim
        (λ (q : e ≡ x). eq-eqb _ _ (let p : 256 * c + e ≡ 256 * c + x = omega arith in p) ∙ sym (eq-eqb e x q))
        (λ (n : e ≡ x → ⊥). ne_eqb _ _ (λ p. n (let q : e ≡ x = omega arith in q)) ∙ sym (ne_eqb e x n))
        (cases_eq e x)

    whole : RowBecomes rows (inserted rows (256 * c + e)) c (λ x. eqb e x || contains rows c x)
    whole = record {
      elements = λ x k. contains_has (inserted rows (256 * c + e)) c x k ∙ has_inserted rows (256 * c + e) (256 * c + x) (omega arith) ∙ ap₂ ◌||◌ (test x) (sym (contains_has rows c x k));
      others = λ i n. get_or-set_other rows ((256 * c + e) / 64) i _ 0 (omega arith);
    }

-- rows other than the one that was written
pub other_row : (old new : List ℕ) (c : ℕ) (f : ℕ → Bool) → RowBecomes old new c f → (d e : ℕ) → d ≢ c → e < 256 → contains new d e ≡ contains old d e
other_row old new c f p d e n h = ap (λ w. bit w (e % 64)) (p.others (4 * d + e / 64) (omega arith))
