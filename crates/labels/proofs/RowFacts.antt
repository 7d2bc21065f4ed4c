-- The row of a list of numbers has exactly the numbers of the list.
use Rattle.std.proofs.Common.{◌≡◌, ℕ, ◌*◌, ◌/◌, ◌<◌, ◌≤◌, Bool, true, false, ◌&&◌, ◌||◌, eqb, ltb, List, [], ◌∷◌, length, replicate, sym, refl, ap, ◌∙◌, ⊎_elim, arith}
use mathlib.Core.Bool.{or-false, and-false}
use Rattle.std.proofs.lemmas.List.{set_past}
use Rattle.std.proofs.lemmas.Bool.{cases_eq, cases_lt, eq-eqb, ne_eqb, lt-ltb, le-ltb}
use Rattle.bits.specs.Bits.{has, inserted}
use Rattle.bits.proofs.BitFacts.{length_inserted, has_inserted, has_zeros}
use Rattle.bits.specs.Among.{among}
use Rattle.labels.specs.Labels.{filled, row}

-- one number more, if the row has a place for it
pub inserted_has : (r : List ℕ) (m c : ℕ) → has (inserted r m) c ≡ ((ltb c (64 * length r) && eqb m c) || has r c)
inserted_has r m c = ⊎_elim inside past (cases_lt m (64 * length r))
  where
    same : m < 64 * length r → eqb m c ≡ (ltb c (64 * length r) && eqb m c)
    same h = ⊎_elim
        (λ (e : m ≡ c). rw (eq-eqb m c e, lt-ltb c (64 * length r) (omega arith)))
        (λ (n : m ≡ c → ⊥). rw (ne_eqb m c n) (sym (and-false (ltb c (64 * length r)))))
        (cases_eq m c)

    inside : m < 64 * length r → has (inserted r m) c ≡ ((ltb c (64 * length r) && eqb m c) || has r c)
    inside h = has_inserted r m c h ∙ ap (λ b. b || has r c) (same h)

    none : 64 * length r ≤ m → (ltb c (64 * length r) && eqb m c) ≡ false
    none h = ⊎_elim
        (λ (e : m ≡ c). rw (le-ltb c (64 * length r) (omega arith)))
        (λ (n : m ≡ c → ⊥). rw (ne_eqb m c n) (and-false (ltb c (64 * length r))))
        (cases_eq m c)

    past : 64 * length r ≤ m → has (inserted r m) c ≡ ((ltb c (64 * length r) && eqb m c) || has r c)
    past h = ap (λ s. has s c) (set_past r (m / 64) _ (omega arith)) ∙ sym (ap (λ b. b || has r c) (none h))

joined : (room here rest old : Bool) → ((room && rest) || ((room && here) || old)) ≡ ((room && (here || rest)) || old)
joined true true true old = refl
joined true true false old = refl
joined true false rest old = refl
joined false here rest old = refl

pub filled_has : (r ms : List ℕ) (c : ℕ) → has (filled r ms) c ≡ ((ltb c (64 * length r) && among ms c) || has r c)
filled_has r [] c = sym (ap (λ b. b || has r c) (and-false (ltb c (64 * length r))))
filled_has r (m ∷ ms) c =
    filled_has (inserted r m) ms c
    ∙ ap (λ n. (ltb c (64 * n) && among ms c) || has (inserted r m) c) (length_inserted r m)
    ∙ ap (λ b. (ltb c (64 * length r) && among ms c) || b) (inserted_has r m c)
    ∙ joined (ltb c (64 * length r)) (eqb m c) (among ms c) (has r c)

pub row_has : (ms : List ℕ) (c : ℕ) → has (row ms) c ≡ (ltb c 1024 && among ms c)
unfolding row
row_has ms c =
    filled_has (replicate 16 0) ms c ∙ ap (λ b. (ltb c 1024 && among ms c) || b) (has_zeros 16 c) ∙ or-false (ltb c 1024 && among ms c)
