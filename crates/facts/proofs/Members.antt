-- Lists of numbers that all stand, and that rise.
use Rattle.std.proofs.Common.{◌≡◌, ℕ, zero, suc, ◌+◌, ◌-◌, ◌<◌, ◌≤◌, Bool, true, false, not, ◌&&◌, eqb, ltb, List, [], ◌∷◌, length, get_or, None, sym, refl, ap, ◌∙◌, subst, ⊎_elim, arith}
use Rattle.std.proofs.lemmas.Bool.{cases_lt, cases_Bool, lt-ltb, and_parts, and_left, and_right, eqb-true, eq-eqb, lt-leb, le-ltb, not-false, leb-false, or_cases, or_left, or_right}
use Rattle.bits.specs.Bits.{has}
use Rattle.bits.specs.Among.{among}
use Rattle.labels.specs.Labels.{row, absent, absent_at, falls, falling_at, outside}
use Rattle.labels.proofs.LeastFacts.{least_all, all_least}
use Rattle.labels.proofs.RowFacts.{row_has}
use Rattle.facts.specs.Trees.{Rising}

below_all : (n : ℕ) (ms : List ℕ) → ((i : ℕ) → i < length ms → get_or ms i 0 < n) → (c : ℕ) → among ms c ≡ true → c < n
below_all n [] h c a = let z : ◌≡◌ {A = ℕ} 0 1 = cc in absurd (omega arith)
below_all n (m ∷ ms) h c a = ⊎_elim
    (λ e. subst (λ (x : ℕ). x < n) (eqb-true m c e) (h 0 (omega arith)))
    (below_all n ms (λ i l. h (suc i) (omega arith)) c)
    (or_cases (eqb m c) (among ms c) a)

pub none_absent : (n : ℕ) (ms : List ℕ) → absent_at n ms ≡ None → (c : ℕ) → among ms c ≡ true → c < n
none_absent n ms h = below_all n ms (λ i l. leb-false n (get_or ms i 0) (least_all (length ms) (absent n ms) h i l))

-- a number of a row is one of the numbers that it was made of
pub in_row : (ms : List ℕ) (c : ℕ) → has (row ms) c ≡ true → among ms c ≡ true
in_row ms c h = (and_parts (ltb c 1024) (among ms c) (sym (row_has ms c) ∙ h)).1

-- and the row of numbers that are all below 1,024 has exactly these
pub row_is : (ms : List ℕ) → ((c : ℕ) → among ms c ≡ true → c < 1024) → has (row ms) ≡ among ms
row_is ms small = λ i c. each c i
  where
    each : (c : ℕ) → has (row ms) c ≡ among ms c
    each c = row_has ms c ∙ ⊎_elim
        (λ (h : among ms c ≡ true). ap (λ b. b && among ms c) (lt-ltb c 1024 (small c h)))
        (λ (h : among ms c ≡ false). and_right (ltb c 1024) (among ms c) h ∙ sym h)
        (cases_Bool (among ms c))

-- where none of a row lies outside another, it lies within it
pub none_outside : (y x : List ℕ) → outside y x ≡ None → (c : ℕ) → c < 1024 → has y c ≡ true → has x c ≡ true
none_outside y x h c l k =
    let never = least_all 1024 (λ e. has y e && not (has x e)) h c l in
    not-false (has x c) (subst (λ (b : Bool). (b && not (has x c)) ≡ false) k never)

-- the other way
among_at : (ms : List ℕ) (i : ℕ) → i < length ms → among ms (get_or ms i 0) ≡ true
among_at [] i l = absurd (omega arith)
among_at (m ∷ ms) zero l = or_left (eqb m m) (among ms m) (eq-eqb m m refl)
among_at (m ∷ ms) (suc i) l = or_right (eqb m (get_or ms i 0)) (among ms (get_or ms i 0)) (among_at ms i (omega arith))

pub all_stand : (n : ℕ) (ms : List ℕ) → ((c : ℕ) → among ms c ≡ true → c < n) → absent_at n ms ≡ None
all_stand n ms h = all_least (length ms) (absent n ms) (λ i l. lt-leb n (get_or ms i 0) (h (get_or ms i 0) (among_at ms i l)))

-- no number falls in a list that rises
none_falls : (ms : List ℕ) → Rising ms → (i : ℕ) → i < length ms → falls ms i ≡ false
none_falls ms r i l = ⊎_elim
    (λ (h : 0 < i).
    let e : i - 1 + 1 ≡ i = omega arith in
    let before = get_or ms (i - 1) 0 in
    let rises : before < get_or ms i 0 = subst (λ (j : ℕ). before < get_or ms j 0) e (r (i - 1) (omega arith)) in
    and_right (ltb 0 i) _ (lt-leb (get_or ms i 0) before rises))
    (λ (h : i ≤ 0). and_left (ltb 0 i) _ (le-ltb 0 i h))
    (cases_lt 0 i)

pub none_falling : (ms : List ℕ) → Rising ms → falling_at ms ≡ None
none_falling ms r = all_least (length ms) (falls ms) (none_falls ms r)
