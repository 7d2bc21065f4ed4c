-- A walk through the members of a label, each of which puts numbers into a row.
use Rattle.std.proofs.Common.{◌≡◌, ℕ, ◌+◌, ◌*◌, ◌<◌, ◌≤◌, Bool, true, false, ◌&&◌, ◌||◌, eqb, ltb, leb, List, length, Some, None, sym, refl, ap, ◌∙◌, ⊎_elim, arith}
use mathlib.Core.Bool.{or-false, or_comm}
use Rattle.std.proofs.lemmas.Bool.{cases_lt, and_parts, and_left, and_right, lt-ltb, le-ltb, le-leb, leb-true}
use Rattle.bits.specs.Bits.{has, inserted}
use Rattle.bits.proofs.BitFacts.{has_past}
use Rattle.logic.specs.Theories.{Theory}
use Rattle.labels.specs.Labels.{Row, next_from}
use Rattle.labels.proofs.LeastFacts.{least_all, least_some}
use Rattle.labels.proofs.RowFacts.{inserted_has}
use Rattle.bits.specs.Below.{some_below}
use Rattle.schemas.specs.House.{gives}
use Rattle.bits.proofs.SomeBelow.{some_none, some_rest, some_more}

-- one number put into a row of sixteen words
pub has_put : (row new : List ℕ) (m : ℕ) → length row ≡ 16 → new ≡ inserted row m → (c : ℕ) → has new c ≡ (has row c || (ltb c 1024 && eqb m c))
has_put row new m size e c =
    ap (λ r. has r c) e ∙ inserted_has row m c ∙ ap (λ n. (ltb c (64 * n) && eqb m c) || has row c) size ∙ or_comm (ltb c 1024 && eqb m c) (has row c)

-- a number put in if it passes the test, which only it can pass
pub put_one : (row new : List ℕ) (m : ℕ) (test : ℕ → Bool) → length row ≡ 16 → new ≡ inserted row m → ((c : ℕ) → test c ≡ eqb m c)
    → (c : ℕ) → has new c ≡ (has row c || (ltb c 1024 && test c))
put_one row new m test size e same c = has_put row new m size e c ∙ ap (λ z. has row c || (ltb c 1024 && z)) (sym (same c))

pub put_none : (row : List ℕ) (test : ℕ → Bool) → ((c : ℕ) → test c ≡ false) → (c : ℕ) → has row c ≡ (has row c || (ltb c 1024 && test c))
put_none row test none c = sym (ap (λ z. has row c || z) (and_right (ltb c 1024) (test c) (none c)) ∙ or-false (has row c))

twice : (o b p q : Bool) → ((o || (b && p)) || (b && q)) ≡ (o || (b && (p || q)))
twice true b p q = refl
twice false true p q = refl
twice false false p q = refl

-- first some numbers, then one more
pub put_both : (row mid new : List ℕ) (first second : ℕ → Bool) → ((c : ℕ) → has mid c ≡ (has row c || (ltb c 1024 && first c)))
    → ((c : ℕ) → has new c ≡ (has mid c || (ltb c 1024 && second c))) → (c : ℕ) → has new c ≡ (has row c || (ltb c 1024 && (first c || second c)))
put_both row mid new first second a b c =
    b c ∙ ap (λ z. z || (ltb c 1024 && second c)) (a c) ∙ twice (has row c) (ltb c 1024) (first c) (second c)

-- where the walk starts: a row that has what passes the test s, with one number put in
pub walk_starts : (row new : List ℕ) (m : ℕ) (s : ℕ → Bool) (f : ℕ → ℕ → Bool) → length row ≡ 16 → length new ≡ 16
    → ((k : ℕ) → k < 1024 → has row k ≡ s k) → new ≡ inserted row m → Row new (λ k. (eqb m k || s k) || some_below 0 (f k))
walk_starts row new m s f size size' same e = (
  size',
  λ k. has_put row new m size e k ∙ ⊎_elim (inside k) (past k) (cases_lt k 1024)
      ∙ sym (ap (λ z. ltb k 1024 && z) (ap (λ z. (eqb m k || s k) || z) (some_none (f k)) ∙ or-false (eqb m k || s k))),
)
  where
    inside : (k : ℕ) → k < 1024 → (has row k || (ltb k 1024 && eqb m k)) ≡ (ltb k 1024 && (eqb m k || s k))
    inside k l = rw (lt-ltb k 1024 l, same k l) (or_comm (s k) (eqb m k))

    past : (k : ℕ) → 1024 ≤ k → (has row k || (ltb k 1024 && eqb m k)) ≡ (ltb k 1024 && (eqb m k || s k))
    past k l = rw (le-ltb k 1024 l) (or-false (has row k) ∙ has_past row k (omega arith))

joined : (b s t g : Bool) → ((b && (s || t)) || (b && g)) ≡ (b && (s || (t || g)))
joined true true t g = refl
joined true false t g = refl
joined false s t g = refl

module _ (x : List ℕ) (from : ℕ) where
  -- what fails the test from there on is no member
  absent : (k : ℕ) → from ≤ k → (leb from k && has x k) ≡ false → has x k ≡ false
  absent k l h = rw (le-leb from k l) at h

  -- where the next member is, and none before it
  next_at : (d : ℕ) → next_from x from ≡ Some d → (d < 1024) × (from ≤ d) × (has x d ≡ true) × ((k : ℕ) → from ≤ k → k < d → has x k ≡ false)
  next_at d h =
      let (l, t, rest) = least_some 1024 d (λ k. leb from k && has x k) h in
      let (a, b) = and_parts (leb from d) (has x d) t in (
        l,
        leb-true from d a,
        b,
        λ k lo hi. absent k lo (rest k hi),
      )

  -- one member more
  pub walk_goes_on : (row new : List ℕ) (d : ℕ) (start : ℕ → Bool) (g : ℕ → ℕ → Bool) → length new ≡ 16 → next_from x from ≡ Some d
      → Row row (λ k. start k || some_below from (λ j. has x j && g j k)) → ((c : ℕ) → has new c ≡ (has row c || (ltb c 1024 && g d c)))
      → Row new (λ k. start k || some_below (d + 1) (λ j. has x j && g j k))
  walk_goes_on row new d start g size h before put = (
    size,
    λ k.
        let (l, lo, here, rest) = next_at d h in
        let f : ℕ → Bool = λ j. has x j && g j k in
        put k ∙ ap (λ z. z || (ltb k 1024 && g d k)) (before.1 k)
        ∙ joined (ltb k 1024) (start k) (some_below from f) (g d k)
        ∙ ap (λ z. ltb k 1024 && (start k || (some_below from f || (z && g d k)))) (sym here)
        ∙ sym (ap (λ z. ltb k 1024 && (start k || z)) (some_more from d f lo (λ j a b. and_left (has x j) (g j k) (rest j a b)))),
  )

  -- no member more
  pub walk_ends : (row : List ℕ) (start : ℕ → Bool) (g : ℕ → ℕ → Bool) → from ≤ 1024 → next_from x from ≡ None
      → Row row (λ k. start k || some_below from (λ j. has x j && g j k)) → Row row (λ k. start k || some_below 1024 (λ j. has x j && g j k))
  walk_ends row start g small h before = (
    before.0,
    λ k. before.1 k ∙ sym (ap (λ z. ltb k 1024 && (start k || z)) (some_rest from 1024 (λ j. has x j && g j k) small
        (λ j a b. and_left (has x j) (g j k) (absent j a (least_all 1024 (λ m. leb from m && has x m) h j b))))),
  )

  pub next_is : (d : ℕ) → next_from x from ≡ Some d → (d < 1024) × (from ≤ d)
  next_is d h = let t = next_at d h in (t.0, t.1)

-- two bounds give the same, if nothing from either on passes the test
same_bounds : (m n : ℕ) (f : ℕ → Bool) → ((k : ℕ) → m ≤ k → f k ≡ false) → ((k : ℕ) → n ≤ k → f k ≡ false)
    → some_below m f ≡ some_below n f
same_bounds m n f p q = ⊎_elim
    (λ (l : m < n). sym (some_rest m n f (omega arith) (λ k a b. p k a)))
    (λ (l : n ≤ m). some_rest n m f l (λ k a b. q k a))
    (cases_lt m n)

-- a concept that doesn't stand gives nothing
none_given : (t : Theory) (r d c : ℕ) → length t.concepts ≤ d → gives t r d c ≡ false
none_given t r d c l = rw (le-ltb d (length t.concepts) l) refl

-- what the members of a label give, the standing ones give
pub what_stands : (t : Theory) (x : List ℕ) (r : ℕ) (row : List ℕ) (start : ℕ → Bool) → length x ≡ 16
    → Row row (λ k. start k || some_below 1024 (λ d. has x d && gives t r d k))
    → Row row (λ k. start k || some_below (length t.concepts) (λ d. has x d && gives t r d k))
what_stands t x r row start size (sixteen, all) = (
  sixteen,
  λ k. all k ∙ ap (λ z. ltb k 1024 && (start k || z)) (same_bounds 1024 (length t.concepts) (λ d. has x d && gives t r d k)
      (λ d l. and_left (has x d) (gives t r d k) (has_past x d (omega arith)))
      (λ d l. and_right (has x d) (gives t r d k) (none_given t r d k l))),
)
