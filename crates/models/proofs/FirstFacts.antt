-- What a search by the library's methods finds.
use Rattle.std.proofs.Common.{◌≡◌, ℕ, min, ◌<◌, ◌≤◌, Bool, true, false, ◌&&◌, leb, T, ◌↔◌, List, length, get_or, Some, None, Option, refl, sym, ap, ◌∙◌, subst, ⊎_elim, arith}
use Rattle.std.proofs.lemmas.Bool.{cases_lt, le-leb, leb-true, false≢true}
use Rattle.std.specs.Bool.{MatchBool}
use Rattle.std.specs.Option.{MatchOption}
use Rattle.std.specs.List.{AllWithin, HoldsAt, range_with_len}
use Rattle.std.proofs.lemmas.List.FromFn.{length-range_with_len, get_or-range_with_len}
use Rattle.bits.specs.Bits.{has}
use Rattle.labels.specs.Least.{least}
use Rattle.labels.proofs.LeastFacts.{least_all, least_some}
use Rattle.models.specs.Firsts.{First}

pub first_map : (P Q : ℕ → Type 0) (n : ℕ) (o : Option ℕ) → ((k : ℕ) → k < n → P k ↔ Q k) → First P n o → First Q n o
first_map P Q n None f h = λ k l. (f k l).0 (h k l)
first_map P Q n (Some i) f h = (h.0, (λ q. h.1 ((f i h.0).1 q)), λ k l. (f k (let z = h.0 in omega arith)).0 (h.2 k l))

-- by `find` over the numbers from 0 up
pub first_number : (P : ℕ → Type 0) (n m : ℕ) (o : Option ℕ) → n ≡ m →
    MatchOption o ((k : ℕ) → 0 ≤ k → k < n → P k) (λ i. (0 ≤ i) × (i < n) × (P i → ⊥) × ((k : ℕ) → 0 ≤ k → k < i → P k)) → First P m o
first_number P n m None e h = λ k l. h k (omega arith) (omega arith)
first_number P n m (Some i) e h = (let l = h.1 in omega arith, h.2, λ k l. h.3 k (omega arith) l)

-- by `position` in a list
pub first_place : {X : Type 0} (P : X → Type 0) (d : X) (xs : List X) (o : Option ℕ) →
    MatchOption o (AllWithin P xs 0 (length xs)) (λ i. (i < length xs) × HoldsAt (λ x. P x → ⊥) xs i × AllWithin P xs 0 i) → First (λ k. P (get_or xs k d)) (length xs) o
first_place P d xs None h = λ k l. h k d (omega arith) l
first_place P d xs (Some i) h = (h.0, h.1 d, λ k l. h.2 k d (omega arith) l)

-- By `all` over a list, of whose elements v reads a value: the one at k is at k.
pub all_read : {X Y : Type 0} (P : Y → Type 0) (v : X → Y) (at : ℕ → Y) (d : X) (xs : List X) (n : ℕ) → length xs ≡ n → ((k : ℕ) → k < n → v (get_or xs k d) ≡ at k) →
    (Q : Type 0) → ((k : ℕ) → k < n → P (at k)) ↔ Q → (r : Bool) → MatchBool r (AllWithin (λ x. P (v x)) xs 0 (length xs)) ((k : ℕ) × (k < length xs) × HoldsAt (λ x. P (v x) → ⊥) xs k) → T r ↔ Q
all_read P v at d xs n e same Q q true h = ((λ _. q.0 (λ k l. subst P (same k l) (h k d (omega arith) (omega arith)))), λ _. tt)
all_read P v at d xs n e same Q q false h = (
  (λ t. absurd t),
  λ f. let l = h.1 in let k : h.0 < n = omega arith in h.2 d (subst P (sym (same h.0 k)) (q.1 f h.0 k)),
)

-- and over the numbers from 0 up
pub all_numbers : (P : ℕ → Type 0) (n : ℕ) (r : Bool) →
    MatchBool r (AllWithin P (range_with_len 0 n) 0 (length (range_with_len 0 n))) ((k : ℕ) × (k < length (range_with_len 0 n)) × HoldsAt (λ x. P x → ⊥) (range_with_len 0 n) k) →
    T r ↔ ((k : ℕ) → k < n → P k)
all_numbers P n = all_read P (λ x. x) (λ k. k) 0 (range_with_len 0 n) n (length-range_with_len 0 n) (λ k l. get_or-range_with_len 0 n k 0 l ∙ omega arith) _ ((λ f. f), λ f. f)

-- A label is looked through up to n, where so many concepts stand or the label ends, and all that it has there pass. Then
-- its first member from n on, if any, is the first of all that does not stand or does not pass.
module _ (label : List ℕ) (count n : ℕ) (passes : ℕ → Type 0) (is : n ≡ min count 1024) (before : (c : ℕ) → c < n → has label c ≡ true → passes c) where
  abbrev behind : ℕ → Bool
  behind k = leb n k && has label k

  stands : (c : ℕ) → c < n → has label c ≡ true → (c < count) × passes c
  stands c l h = (omega (arith, is), before c l h)

  none_behind : (c : ℕ) → n ≤ c → has label c ≡ true → behind c ≡ false → ⊥
  none_behind c l h e = false≢true (sym e ∙ ap (λ b. b && has label c) (le-leb n c l) ∙ h)

  pub first_behind : (o : Option ℕ) → o ≡ least 1024 behind → First (λ c. has label c ≡ true → (c < count) × passes c) 1024 o
  first_behind None e = λ c l h. ⊎_elim
      (λ (b : c < n). stands c b h)
      (λ (b : n ≤ c). absurd (none_behind c b h (least_all 1024 behind (sym e) c l)))
      (cases_lt c n)
  first_behind (Some c) e =
      let (l, t, rest) = least_some 1024 c behind (sym e) in
      let (low, member) = both_true (leb n c) (has label c) t in (
        l,
        (λ p. let s = (p member).0 in let m = leb-true n c low in absurd (omega (arith, is))),
        λ k h m. ⊎_elim
            (λ (b : k < n). stands k b m)
            (λ (b : n ≤ k). absurd (none_behind k b m (rest k h)))
            (cases_lt k n),
      )
    where
      both_true : (a b : Bool) → (a && b) ≡ true → (a ≡ true) × (b ≡ true)
      both_true true b h = (refl, h)
      both_true false b h = absurd (false≢true h)
