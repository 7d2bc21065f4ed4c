-- The least number that passes a test.
use Rattle.std.proofs.Common.{◌≡◌, ℕ, zero, suc, ◌+◌, ◌<◌, ◌≤◌, Bool, true, false, cond, ltb, List, length, get_or, Some, None, Option, sym, refl, ap, ◌∙◌, ⊎_elim, add-one, arith}
use Rattle.std.specs.List.{position_or_len}
use Rattle.std.proofs.lemmas.Bool.{cases_lt, lt-ltb, le-ltb}
use Rattle.std.proofs.lemmas.List.Sums.{fails_before_first, passes_at_first}
use Rattle.labels.specs.Least.{found_or, least}

pub least_none : (f : ℕ → Bool) → least 0 f ≡ None
unfolding least
least_none f = refl

-- one number more
pub least_next : (n : ℕ) (f : ℕ → Bool) → least (n + 1) f ≡ found_or (least n f) (f n) n
unfolding least
least_next n f = rw add-one refl

-- nothing so far, nor here
pub least_more : (n : ℕ) (f : ℕ → Bool) → least n f ≡ None → f n ≡ false → least (n + 1) f ≡ None
unfolding least
least_more n f h k = rw add-one (ap (λ o. found_or o (f n) n) h ∙ ap (λ b. found_or None b n) k)

-- nothing so far, but here
pub least_here : (m n : ℕ) (f : ℕ → Bool) → least n f ≡ None → f n ≡ true → n < m → least m f ≡ Some n
unfolding least
least_here zero n f h k l = absurd (omega arith)
least_here (suc m) n f h k l = ⊎_elim (λ q. ap (λ o. found_or o (f m) m) (least_here m n f h k q)) last (cases_lt n m)
  where
    last : m ≤ n → found_or (least m f) (f m) m ≡ Some n
    last q =
        let e : m ≡ n = omega arith in
        ap (λ x. found_or (least x f) (f x) x) e ∙ ap (λ o. found_or o (f n) n) h ∙ ap (λ b. found_or None b n) k

none_parts : (o : Option ℕ) (b : Bool) (n : ℕ) → found_or o b n ≡ None → (o ≡ None) × (b ≡ false)
none_parts None false n h = (refl, refl)
none_parts None true n h = let z : ◌≡◌ {A = ℕ} 0 1 = cc in absurd (omega arith)
none_parts (Some k) b n h = let z : ◌≡◌ {A = ℕ} 0 1 = cc in absurd (omega arith)

-- none is found if and only if none passes
pub least_all : (n : ℕ) (f : ℕ → Bool) → least n f ≡ None → (c : ℕ) → c < n → f c ≡ false
unfolding least
least_all zero f h c l = absurd (omega arith)
least_all (suc n) f h c l =
    let p = none_parts (least n f) (f n) n h in
    ⊎_elim (λ (q : c < n). least_all n f p.0 c q) (λ (q : n ≤ c). let e : c ≡ n = omega arith in ap f e ∙ p.1) (cases_lt c n)

pub all_least : (n : ℕ) (f : ℕ → Bool) → ((c : ℕ) → c < n → f c ≡ false) → least n f ≡ None
unfolding least
all_least zero f h = refl
all_least (suc n) f h = ap (λ o. found_or o (f n) n) (all_least n f (λ c l. h c (omega arith))) ∙ ap (λ b. found_or None b n) (h n (omega arith))

-- what is found passes, and nothing below it does
pub least_some : (n k : ℕ) (f : ℕ → Bool) → least n f ≡ Some k → (k < n) × (f k ≡ true) × ((j : ℕ) → j < k → f j ≡ false)
unfolding least
least_some zero k f h = let z : ◌≡◌ {A = ℕ} 0 1 = cc in absurd (omega arith)
least_some (suc n) k f h = go (least n f) (f n) refl refl h (least_some n k f)
  where
    go : (o : Option ℕ) (b : Bool) → least n f ≡ o → f n ≡ b → found_or o b n ≡ Some k
        → (least n f ≡ Some k → (k < n) × (f k ≡ true) × ((j : ℕ) → j < k → f j ≡ false))
        → (k < suc n) × (f k ≡ true) × ((j : ℕ) → j < k → f j ≡ false)
    go (Some i) b e q h before = let (l, t, rest) = before (e ∙ h) in (omega arith, t, rest)
    go None true e q h before =
        let s : n ≡ k = cc in
        (omega arith, ap f (sym s) ∙ q, λ j l. least_all n f e j (omega arith))
    go None false e q h before = let z : ◌≡◌ {A = ℕ} 0 1 = cc in absurd (omega arith)

-- it's the same for tests that agree
pub least_ext : (n : ℕ) (f g : ℕ → Bool) → ((k : ℕ) → k < n → f k ≡ g k) → least n f ≡ least n g
unfolding least
least_ext zero f g h = refl
least_ext (suc n) f g h =
    ap (λ o. found_or o (f n) n) (least_ext n f g (λ k l. h k (omega arith))) ∙ ap (λ b. found_or (least n g) b n) (h n (omega arith))

-- none below a number, none below a smaller one
pub least_below : (m n : ℕ) (f : ℕ → Bool) → m ≤ n → least n f ≡ None → least m f ≡ None
least_below m n f l h = all_least m f (λ c k. least_all n f h c (omega arith))

-- the first place of a list at which the test passes, as the library says it
pub position_least : {A : Type 0} (test : A → Bool) (xs : List A) (d : A)
    → cond (ltb (position_or_len test xs) (length xs)) (Some (position_or_len test xs)) None ≡ least (length xs) (λ i. test (get_or xs i d))
position_least test xs d = ⊎_elim
    (λ (l : p < length xs). rw (lt-ltb p (length xs) l) (sym (least_here (length xs) p at (all_least p at before) (passes_at_first test xs d l) l)))
    (λ (l : length xs ≤ p). rw (le-ltb p (length xs) l) (sym (all_least (length xs) at (λ k h. before k (omega arith)))))
    (cases_lt p (length xs))
  where
    p : ℕ
    p = position_or_len test xs

    at : ℕ → Bool
    at i = test (get_or xs i d)

    before : (k : ℕ) → k < p → at k ≡ false
    before k h = fails_before_first test xs k d h
