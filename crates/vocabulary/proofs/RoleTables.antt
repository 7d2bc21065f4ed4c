-- The tables of the roles go on saying what the role axioms say.
use Rattle.std.proofs.Common.{◌≡◌, ℕ, ◌≤◌, Bool, true, false, eqb, refl, ◌∙◌, ◌*◌, ◌/◌, ◌%◌, ◌^◌, ◌<◌, T, ◌⊎◌, ◌↔◌, List, [], ◌∷◌, ◌++◌, sym, ap, subst, inl, inr, ⊎_elim, arith}
use mathlib.Core.List.Memᴰ
use mathlib.Core.List.{Memᴰ}
use lib.Bits.{bit_or}
use Rattle.std.proofs.lemmas.Nat.{one_shl}
use Rattle.std.proofs.lemmas.Bool.{cases_eq, eq-eqb, ne_eqb}
use mathlib.Core.Logic.Iff
use Rattle.bits.specs.Bits.{bit}
use Rattle.bits.proofs.BitFacts.{bit-bit_or, bit_zero, pow_same, bit_pow_other}
use Rattle.logic.specs.declared.role.RoleAxiom.{RoleAxiom}
use Rattle.logic.specs.declared.role.RoleAxiom.TheVariants.{Inclusion, Transitivity}
use Rattle.logic.specs.Roles.{inverse, Below, listed, itself, chained, inverted, Transitive, NamesBelow, AllNameBelow}
use Rattle.closure.specs.Closure.{cell, Exact}
use Rattle.closure.proofs.Exactness.{exact_transitivity}
use Rattle.closure.specs.Decide.{is_below, is_transitive}
use Rattle.closure.proofs.Decided.{below_decided, transitive_decided, true_below, below_true}
use Rattle.vocabulary.specs.Tables.{RolesAgree}
use Rattle.bits.proofs.Tests.{or_out, or_left, or_right}

module _ (axioms : List RoleAxiom) (a : RoleAxiom) where
  pub names_more : (n : ℕ) → AllNameBelow n axioms → NamesBelow n a → AllNameBelow n (axioms ++ a ∷ [])
  names_more n all new b m = ⊎_elim (all b) (λ e. subst (NamesBelow n) (sym (Memᴰ.eq_of_singleton e)) new) (Memᴰ.append_cases axioms m)

  -- what the longer list names transitive
  now_transitive : (r : ℕ) → Transitive (axioms ++ a ∷ []) r → Transitive axioms r ⊎ ((a ≡ Transitivity r) ⊎ (a ≡ Transitivity (inverse r)))
  now_transitive r (inl m) = ⊎_elim (λ h. inl (inl h)) (λ e. inr (inl (sym (Memᴰ.eq_of_singleton e)))) (Memᴰ.append_cases axioms m)
  now_transitive r (inr m) = ⊎_elim (λ h. inl (inr h)) (λ e. inr (inr (sym (Memᴰ.eq_of_singleton e)))) (Memᴰ.append_cases axioms m)

  still_transitive : (r : ℕ) → Transitive axioms r → Transitive (axioms ++ a ∷ []) r
  still_transitive r (inl m) = inl (Memᴰ.append_left (a ∷ []) m)
  still_transitive r (inr m) = inr (Memᴰ.append_left (a ∷ []) m)

  named_transitive : (r : ℕ) → (a ≡ Transitivity r) ⊎ (a ≡ Transitivity (inverse r)) → Transitive (axioms ++ a ∷ []) r
  named_transitive r (inl e) = inl (Memᴰ.append_right axioms (Memᴰ.head (sym e)))
  named_transitive r (inr e) = inr (Memᴰ.append_right axioms (Memᴰ.head (sym e)))

-- the transitive names say which roles are transitive
abbrev pub NamesTransitive : ℕ → List RoleAxiom → Type 0
NamesTransitive names axioms = (r : ℕ) → r < 128 → T (bit names (r / 2)) ↔ Transitive axioms r

pub transitive_none : NamesTransitive 0 []
transitive_none r l = (λ h. absurd (subst T (bit_zero (r / 2)) h), ⊎_elim (λ m. absurd (Memᴰ.not-nil m)) (λ m. absurd (Memᴰ.not-nil m)))

pub transitive_inclusion : (names : ℕ) (axioms : List RoleAxiom) (r s : ℕ) → NamesTransitive names axioms → NamesTransitive names (axioms ++ Inclusion r s ∷ [])
transitive_inclusion names axioms r s kept x l = (
  λ h. still_transitive axioms (Inclusion r s) x ((kept x l).0 h),
  λ h. ⊎_elim (kept x l).1 (⊎_elim no_name no_name) (now_transitive axioms (Inclusion r s) x h),
)
  where
    no_name : {y : ℕ} → Inclusion r s ≡ Transitivity y → T (bit names (x / 2))
    no_name e = let z : ◌≡◌ {A = ℕ} 0 1 = cc in absurd (omega arith)

-- bit j of 2 ^ k
power_bit : (k j : ℕ) → T (bit (2 ^ k) j) → k ≡ j
power_bit k j h = ⊎_elim (λ (e : j ≡ k). sym e) (λ (d : j ≡ k → ⊥). absurd (subst T (bit_pow_other j k d) h)) (cases_eq j k)

pub transitive_more : (names : ℕ) (axioms : List RoleAxiom) (r : ℕ) → r < 128 → NamesTransitive names axioms → NamesTransitive (bit_or names (1 * 2 ^ (r / 2) % 2 ^ 64)) (axioms ++ Transitivity r ∷ [])
transitive_more names axioms r lr kept x l = rw (one_shl (r / 2) 64 (omega arith)) (forth, back)
  where
    same_name : r / 2 ≡ x / 2 → (Transitivity r ≡ Transitivity x) ⊎ (Transitivity r ≡ Transitivity (inverse x))
    same_name e = ⊎_elim
        (λ (q : r ≡ x). inl (ap Transitivity q))
        (λ (q : r ≡ x → ⊥). let i : r ≡ inverse x = omega arith in inr (ap Transitivity i))
        (cases_eq r x)

    its_name : (Transitivity r ≡ Transitivity x) ⊎ (Transitivity r ≡ Transitivity (inverse x)) → r / 2 ≡ x / 2
    its_name (inl e) = let q : r ≡ x = cc in omega arith
    its_name (inr e) = let q : r ≡ inverse x = cc in omega arith

    forth : T (bit (bit_or names (2 ^ (r / 2))) (x / 2)) → Transitive (axioms ++ Transitivity r ∷ []) x
    forth h = ⊎_elim
        (λ k. still_transitive axioms (Transitivity r) x ((kept x l).0 k))
        (λ k. named_transitive axioms (Transitivity r) x (same_name (power_bit (r / 2) (x / 2) k)))
        (or_out (bit names (x / 2)) (bit (2 ^ (r / 2)) (x / 2)) (subst T (bit-bit_or names (2 ^ (r / 2)) (x / 2)) h))

    back : Transitive (axioms ++ Transitivity r ∷ []) x → T (bit (bit_or names (2 ^ (r / 2))) (x / 2))
    back h = subst T (sym (bit-bit_or names (2 ^ (r / 2)) (x / 2))) (⊎_elim
        (λ k. or_left (bit names (x / 2)) (bit (2 ^ (r / 2)) (x / 2)) ((kept x l).1 k))
        (λ e. or_right (bit names (x / 2)) (bit (2 ^ (r / 2)) (x / 2)) (rw (its_name e) (subst T (sym (pow_same (x / 2))) tt)))
        (now_transitive axioms (Transitivity r) x h))

-- tests that say the same
same_test : (a b : Bool) → T a ↔ T b → a ≡ b
same_test true true h = refl
same_test true false h = absurd (h.0 tt)
same_test false true h = absurd (h.1 tt)
same_test false false h = refl

-- what the tables say as relations, and back
module _ (axioms : List RoleAxiom) (below : List ℕ) (names : ℕ) where
  pub to_exact : RolesAgree axioms below names → Exact below 128 axioms
  to_exact a i j hi hj = rw (a.pairs i j hi hj) (below_decided axioms i j)

  pub to_names : RolesAgree axioms below names → NamesTransitive names axioms
  to_names a r l = rw (a.marks r l) (transitive_decided axioms r)

  pub agree : AllNameBelow 128 axioms → Exact below 128 axioms → NamesTransitive names axioms → RolesAgree axioms below names
  agree all exact marks = record {
    names = all;
    pairs = λ r s lr ls. same_test (cell below 128 r s) (is_below axioms r s) (Iff.trans (exact r s lr ls) (Iff.symm (below_decided axioms r s)));
    marks = λ r l. same_test (bit names (r / 2)) (is_transitive axioms r) (Iff.trans (marks r l) (Iff.symm (transitive_decided axioms r)));
  }

-- at the start
pub agree_new : (below : List ℕ) → Exact below 128 [] → RolesAgree [] below 0
agree_new below exact = agree [] below 0 (λ a m. absurd (Memᴰ.not-nil m)) exact transitive_none

-- an axiom more
module _ (axioms : List RoleAxiom) (below below' : List ℕ) (names : ℕ) (old : RolesAgree axioms below names) where
  pub agree_inclusion : (r s : ℕ) → (r < 128) × (s < 128)
      → ((l : List RoleAxiom) → Exact below 128 l → Exact below' 128 (l ++ Inclusion r s ∷ [])) → RolesAgree (axioms ++ Inclusion r s ∷ []) below' names
  agree_inclusion r s fit included = agree (axioms ++ Inclusion r s ∷ []) below' names
      (names_more axioms (Inclusion r s) 128 old.names fit) (included axioms (to_exact axioms below names old))
      (transitive_inclusion names axioms r s (to_names axioms below names old))

pub agree_transitivity : (axioms : List RoleAxiom) (below : List ℕ) (names : ℕ) → RolesAgree axioms below names → (r : ℕ) → r < 128
    → RolesAgree (axioms ++ Transitivity r ∷ []) below (bit_or names (1 * 2 ^ (r / 2) % 2 ^ 64))
agree_transitivity axioms below names old r fit = agree (axioms ++ Transitivity r ∷ []) below (bit_or names (1 * 2 ^ (r / 2) % 2 ^ 64))
    (names_more axioms (Transitivity r) 128 old.names fit) (exact_transitivity below 128 r axioms (to_exact axioms below names old))
    (transitive_more names axioms r fit (to_names axioms below names old))

-- a number that is no role is below itself alone, and above itself alone
apart_below : (n : ℕ) → n % 2 ≡ 0 → (axioms : List RoleAxiom) → AllNameBelow n axioms → (r s : ℕ) → Below axioms r s → (n ≤ r → r ≡ s) × (n ≤ s → r ≡ s)
apart_below n even axioms all r s (listed m) = let f : (r < n) × (s < n) = all (Inclusion r s) m in (λ l. absurd (omega arith), λ l. absurd (omega arith))
apart_below n even axioms all r s itself = (λ l. refl, λ l. refl)
apart_below n even axioms all r s (chained {s = t} p q) =
    let a = apart_below n even axioms all r t p in
    let b = apart_below n even axioms all t s q in (
      λ l. let e : r ≡ t = a.0 l in e ∙ b.0 (subst (λ (x : ℕ). n ≤ x) e l),
      λ l. let e : t ≡ s = b.1 l in a.1 (subst (λ (x : ℕ). n ≤ x) (sym e) l) ∙ e,
    )
apart_below n even axioms all r s (inverted {r = r'} {s = s'} p) =
    let a = apart_below n even axioms all r' s' p in (
      λ (l : n ≤ inverse r'). ap inverse (a.0 (omega arith)),
      λ (l : n ≤ inverse s'). ap inverse (a.1 (omega arith)),
    )

-- so the test of such numbers is whether they are equal
pub apart_test : (axioms : List RoleAxiom) → AllNameBelow 128 axioms → (r s : ℕ) → (128 ≤ r) ⊎ (128 ≤ s) → is_below axioms r s ≡ eqb r s
apart_test axioms all r s side = ⊎_elim
    (λ (e : r ≡ s). rw (eq-eqb r s e) (below_true axioms r s (subst (λ (x : ℕ). Below axioms r x) e itself)))
    (λ (d : r ≡ s → ⊥). rw (ne_eqb r s d) (not_true (is_below axioms r s) (λ h.
    let a = apart_below 128 (omega arith) axioms all r s (true_below axioms r s h) in
    d (⊎_elim a.0 a.1 side))))
    (cases_eq r s)
  where
    not_true : (b : Bool) → (b ≡ true → ⊥) → b ≡ false
    not_true true h = absurd (h refl)
    not_true false h = refl

-- and none of them is transitive
pub not_transitive : (axioms : List RoleAxiom) → AllNameBelow 128 axioms → (r : ℕ) → 128 ≤ r → is_transitive axioms r ≡ false
not_transitive axioms all r l = same_test (is_transitive axioms r) false (λ h. no ((transitive_decided axioms r).0 h), λ h. absurd h)
  where
    no : Transitive axioms r → ⊥
    no (inl m) = let f : r < 128 = all (Transitivity r) m in omega arith
    no (inr m) = let f : inverse r < 128 = all (Transitivity (inverse r)) m in omega arith
