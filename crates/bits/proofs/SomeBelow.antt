-- Whether some number below a bound passes a test.
use Rattle.std.proofs.Common.{◌≡◌, ℕ, zero, suc, ◌+◌, ◌<◌, ◌≤◌, Bool, false, ◌||◌, T, sym, refl, ap, ◌∙◌, subst, ap₂, ⊎_elim, add-one, arith}
use mathlib.Core.Bool.{or-false}
use Rattle.std.proofs.lemmas.Bool.{cases_eq, cases_lt}
use Rattle.bits.specs.Below.{some_below}
use Rattle.bits.proofs.Tests.{or_left, or_right, or_out}

pub some_none : (f : ℕ → Bool) → some_below 0 f ≡ false
unfolding some_below
some_none f = refl

pub some_next : (n : ℕ) (f : ℕ → Bool) → some_below (n + 1) f ≡ (some_below n f || f n)
unfolding some_below
some_next n f = rw add-one refl

pub some_same : (n : ℕ) (f g : ℕ → Bool) → ((k : ℕ) → k < n → f k ≡ g k) → some_below n f ≡ some_below n g
unfolding some_below
some_same zero f g h = refl
some_same (suc n) f g h = ap₂ ◌||◌ (some_same n f g (λ k l. h k (omega arith))) (h n (omega arith))

pub some_there : (n : ℕ) (f : ℕ → Bool) → T (some_below n f) → (i : ℕ) × (i < n) × T (f i)
unfolding some_below
some_there zero f h = absurd h
some_there (suc n) f h = ⊎_elim (λ t. let (i, l, u) = some_there n f t in (i, omega arith, u)) (λ t. (n, omega arith, t)) (or_out (some_below n f) (f n) h)

pub there_some : (n : ℕ) (f : ℕ → Bool) (i : ℕ) → i < n → T (f i) → T (some_below n f)
unfolding some_below
there_some zero f i h t = absurd (omega arith)
there_some (suc n) f i h t = ⊎_elim
    (λ (e : i ≡ n). or_right (some_below n f) (f n) (subst (λ k. T (f k)) e t))
    (λ (d : i ≡ n → ⊥). or_left (some_below n f) (f n) (there_some n f i (omega arith) t))
    (cases_eq i n)

-- nothing from m to n
pub some_rest : (m n : ℕ) (f : ℕ → Bool) → m ≤ n → ((k : ℕ) → m ≤ k → k < n → f k ≡ false) → some_below n f ≡ some_below m f
unfolding some_below
some_rest m zero f l h = let e : m ≡ 0 = omega arith in ap (λ j. some_below j f) (sym e)
some_rest m (suc n) f l h = ⊎_elim
    (λ (k : n < m). let e : m ≡ suc n = omega arith in sym (ap (λ j. some_below j f) e))
    (λ (k : m ≤ n). ap (λ b. some_below n f || b) (h n k (omega arith)) ∙ or-false (some_below n f) ∙ some_rest m n f k (λ j a b. h j a (omega arith)))
    (cases_lt n m)

-- nothing from m to n, and then n
pub some_more : (m n : ℕ) (f : ℕ → Bool) → m ≤ n → ((k : ℕ) → m ≤ k → k < n → f k ≡ false) → some_below (n + 1) f ≡ (some_below m f || f n)
some_more m n f l h = some_next n f ∙ ap (λ b. b || f n) (some_rest m n f l h)
