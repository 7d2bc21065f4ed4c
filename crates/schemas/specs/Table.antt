-- The ten rules in words: when a step applies to a label, and what is in its conclusions. All of it
-- is said over a theory. X is the label; p, q and s are the concepts that the step names, 0 where
-- its rule uses none.
use Rattle.std.specs.Prelude.{◌≡◌, ℕ, ◌-◌, ◌<◌, ◌≤◌, Bool, true, List, [], ◌∷◌, length, slice_index}
use mathlib.Core.List.{Memᴰ}
use Rattle.logic.specs.declared.concept.Concept.TheVariants.{Bottom, And, Or, Only, Exists}
use Rattle.logic.specs.Concepts.{At}
use Rattle.logic.specs.Roles.{inverse, Below, Transitive}
use Rattle.logic.specs.Theories.{Theory, AreMates}

-- the step applies
pub data Applies (t : Theory) (X : ℕ → Bool) : (rule p q s : ℕ) → Type 0 where
  -- p is in X and is Bottom
  bottom : {p : ℕ} → X p ≡ true → At t.concepts p Bottom → Applies t X 1 p 0 0
  -- p and q are in X and are mates
  clash : {p q : ℕ} → X p ≡ true → X q ≡ true → AreMates t.mates p q → Applies t X 2 p q 0
  -- p is in X, "C and D"
  conjunction : {p c d : ℕ} → X p ≡ true → At t.concepts p (And c d) → Applies t X 3 p 0 0
  -- p is in X, "C or D"
  disjunction : {p c d : ℕ} → X p ≡ true → At t.concepts p (Or c d) → Applies t X 4 p 0 0
  -- p is in X, "only R C", and q is "only S C", where S is below R
  narrower : {p q r s c : ℕ} → X p ≡ true → At t.concepts p (Only r c) → At t.concepts q (Only s c)
      → Below t.role_axioms s r → Applies t X 5 p q 0
  -- p is an axiom
  general : {p : ℕ} → Memᴰ p t.axioms → Applies t X 6 p 0 0
  -- p and q are mates
  cut : {p q : ℕ} → AreMates t.mates p q → Applies t X 7 p q 0
  -- p and q are mates; s is "only R E", where E is "some R' q" and R' the inverse of R
  inverse_cut : {p q s r e : ℕ} → AreMates t.mates p q → At t.concepts s (Only r e)
      → At t.concepts e (Exists (inverse r) q) → Applies t X 8 p q s
  -- p and q are mates; p is "only R C", where R is transitive; s is "only R' q"
  transitive_cut : {p q s r c : ℕ} → AreMates t.mates p q → At t.concepts p (Only r c)
      → Transitive t.role_axioms r → At t.concepts s (Only (inverse r) q) → Applies t X 9 p q s
  -- p is in X, "some R C"
  neighbour : {p r c : ℕ} → X p ≡ true → At t.concepts p (Exists r c) → Applies t X 10 p 0 0

-- how many conclusions each rule has, from rule 1 on
abbrev pub conclusions : List ℕ
conclusions = 0 ∷ 0 ∷ 1 ∷ 2 ∷ 1 ∷ 1 ∷ 2 ∷ 2 ∷ 2 ∷ 1 ∷ []

-- concept c is listed in conclusion i
pub data Lists (t : Theory) (X : ℕ → Bool) : (rule p q s i c : ℕ) → Type 0 where
  -- each conclusion of rules 3 to 9 has all of X
  kept : {rule p q s i c : ℕ} → 3 ≤ rule → rule ≤ 9 → i < slice_index conclusions (rule - 1)
      → X c ≡ true → Lists t X rule p q s i c
  -- and rule 3 adds C and D
  first_part : {p q s c d : ℕ} → At t.concepts p (And c d) → Lists t X 3 p q s 0 c
  second_part : {p q s c d : ℕ} → At t.concepts p (And c d) → Lists t X 3 p q s 0 d
  -- rule 4: C; then D
  first_case : {p q s c d : ℕ} → At t.concepts p (Or c d) → Lists t X 4 p q s 0 c
  second_case : {p q s c d : ℕ} → At t.concepts p (Or c d) → Lists t X 4 p q s 1 d
  -- rule 5: q
  the_narrower : {p q s : ℕ} → Lists t X 5 p q s 0 q
  -- rule 6: p
  the_general : {p q s : ℕ} → Lists t X 6 p q s 0 p
  -- rule 7: p; then q
  cut_p : {p q s : ℕ} → Lists t X 7 p q s 0 p
  cut_q : {p q s : ℕ} → Lists t X 7 p q s 1 q
  -- rule 8: p; then q and s
  inverse_p : {p q s : ℕ} → Lists t X 8 p q s 0 p
  inverse_q : {p q s : ℕ} → Lists t X 8 p q s 1 q
  inverse_s : {p q s : ℕ} → Lists t X 8 p q s 1 s
  -- rule 9: p; then q and s
  transitive_p : {p q s : ℕ} → Lists t X 9 p q s 0 p
  transitive_q : {p q s : ℕ} → Lists t X 9 p q s 1 q
  transitive_s : {p q s : ℕ} → Lists t X 9 p q s 1 s
  -- the conclusion of rule 10 is of a neighbour: it has C,
  asked : {p q s r c : ℕ} → At t.concepts p (Exists r c) → Lists t X 10 p q s 0 c
  -- all D with "only R D" in X,
  passed : {p q s r a x d : ℕ} → At t.concepts p (Exists r a) → X x ≡ true
      → At t.concepts x (Only r d) → Lists t X 10 p q s 0 d
  -- all "only S D" in X where R is below S and S is transitive,
  carried : {p q s r r' a c d : ℕ} → At t.concepts p (Exists r a) → X c ≡ true
      → At t.concepts c (Only r' d) → Below t.role_axioms r r' → Transitive t.role_axioms r'
      → Lists t X 10 p q s 0 c
  -- and all axioms
  of_all : {p q s c : ℕ} → Memᴰ c t.axioms → Lists t X 10 p q s 0 c

-- concept c is in conclusion i of the step: the step applies, and c stands and is listed there
pub record Concludes (t : Theory) (X : ℕ → Bool) (rule p q s i c : ℕ) : Type 0 where
  pub step_applies : Applies t X rule p q s
  pub stands : c < length t.concepts
  pub lists : Lists t X rule p q s i c
