-- The row of the axioms goes on having what the list has.
use Rattle.std.proofs.Common.{◌≡◌, ℕ, ◌/◌, ◌<◌, ◌≤◌, Bool, true, false, ◌||◌, eqb, List, [], ◌∷◌, ◌++◌, replicate, sym, refl, ap, ◌∙◌, ⊎_elim, arith}
use mathlib.Core.List.Memᴰ
use mathlib.Core.List.{Memᴰ}
use mathlib.Core.Bool.{or_comm}
use Rattle.std.proofs.lemmas.List.{length-replicate, set_past}
use Rattle.std.proofs.lemmas.Bool.{cases_lt, eqb-true, eq-eqb, ne_eqb, or_cases, or_left, or_right, false≢true}
use Rattle.std.specs.List.{list_any}
use Rattle.bits.specs.Among.{among}
use Rattle.bits.specs.Bits.{has, inserted}
use Rattle.bits.proofs.BitFacts.{has_inserted, length_inserted, has_zeros}
use Rattle.vocabulary.specs.Tables.{RowAgrees}

pub agree_new : RowAgrees [] (replicate 16 0)
agree_new = record { sixteen = length-replicate {A = ℕ} 16 0; exact = λ c l. has_zeros 16 c }

or_assoc : (a b c : Bool) → (a || (b || c)) ≡ ((a || b) || c)
or_assoc true b c = refl
or_assoc false b c = refl

-- a number more at the end
pub among_push : (ms : List ℕ) (m c : ℕ) → among (ms ++ m ∷ []) c ≡ (eqb m c || among ms c)
among_push [] m c = refl
among_push (x ∷ xs) m c =
    ap (λ b. eqb x c || b) (among_push xs m c) ∙ or_assoc (eqb x c) (eqb m c) (among xs c)
    ∙ ap (λ b. b || among xs c) (or_comm (eqb x c) (eqb m c)) ∙ sym (or_assoc (eqb m c) (eqb x c) (among xs c))

pub agree_more : (axioms row : List ℕ) (c : ℕ) → RowAgrees axioms row → RowAgrees (axioms ++ c ∷ []) (inserted row c)
agree_more axioms row c a = record {
  sixteen = length_inserted row c ∙ a.sixteen;
  exact = λ x l. bits x l ∙ ap (λ b. eqb c x || b) (a.exact x l) ∙ sym (among_push axioms c x);
}
  where
    bits : (x : ℕ) → x < 1024 → has (inserted row c) x ≡ (eqb c x || has row x)
    bits x l = ⊎_elim
        (λ (h : c < 1024). let s = a.sixteen in has_inserted row c x (omega arith))
        (λ (h : 1024 ≤ c). past x l h)
        (cases_lt c 1024)
      where
        past : (x : ℕ) → x < 1024 → 1024 ≤ c → has (inserted row c) x ≡ (eqb c x || has row x)
        past x l h =
            let s = a.sixteen in
            let d : c ≡ x → ⊥ = (λ e. omega arith) in
            ap (λ r. has r x) (set_past row (c / 64) _ (omega arith)) ∙ sym (ap (λ b. b || has row x) (ne_eqb c x d))

-- the test says what the list says
pub true_among : (ms : List ℕ) (c : ℕ) → among ms c ≡ true → Memᴰ c ms
true_among [] c h = absurd (false≢true h)
true_among (m ∷ ms) c h = ⊎_elim (λ e. Memᴰ.head (sym (eqb-true m c e))) (λ k. Memᴰ.tail (true_among ms c k)) (or_cases (eqb m c) (among ms c) h)

pub among_true : (ms : List ℕ) (c : ℕ) → Memᴰ c ms → among ms c ≡ true
among_true [] c m = absurd (Memᴰ.not-nil m)
among_true (x ∷ xs) c m = ⊎_elim
    (λ e. or_left (eqb x c) (among xs c) (eq-eqb x c (sym e)))
    (λ k. or_right (eqb x c) (among xs c) (among_true xs c k))
    (Memᴰ.cases_cons m)

-- the library's test whether some number is c
pub any_among : (ms : List ℕ) (c : ℕ) → list_any (λ m. eqb m c) ms ≡ among ms c
any_among [] c = refl
any_among (m ∷ ms) c = ap (λ b. eqb m c || b) (any_among ms c)
