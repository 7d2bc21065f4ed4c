-- A pair put into the table, row by row.
use Rattle.std.proofs.Common.{◌≡◌, ℕ, ◌+◌, ◌<◌, ◌≤◌, Bool, true, false, ◌&&◌, ◌||◌, List, sym, refl, ap, ◌∙◌, ap₂, ⊎_elim, arith}
use mathlib.Core.Bool.{or-false}
use Rattle.std.proofs.lemmas.Bool.{cases_eq, cases_lt}
use Rattle.closure.specs.Closure.{cell, RowJoined, is_through}
use Rattle.closure.proofs.Rows.{joined_cell, other_cell}

absorb : (x y : Bool) → (x || (y && x)) ≡ x
absorb true y = refl
absorb false true = refl
absorb false false = refl

-- the first i rows have the pair put in
pub record PairPart (old new : List ℕ) (roles r s i : ℕ) : Type 0 where
  pub done : (a b : ℕ) → a < i → a < roles → b < roles → cell new roles a b ≡ is_through (cell old roles) r s a b
  pub todo : (a b : ℕ) → i ≤ a → a < roles → b < roles → cell new roles a b ≡ cell old roles a b

-- row s stays as it was: if it is joined at all, then with itself
row_stays : (old new : List ℕ) (roles r s i : ℕ) → s < roles → PairPart old new roles r s i
    → (b : ℕ) → b < roles → cell new roles s b ≡ cell old roles s b
row_stays old new roles r s i hs p b hb = ⊎_elim
    (λ h. p.done s b h hs hb ∙ absorb (cell old roles s b) (cell old roles s r)) (λ h. p.todo s b h hs hb) (cases_lt s i)

-- row i, where it takes over row s and where it doesn't
pub pair_then : (old new next : List ℕ) (roles r s i : ℕ) → r < roles → s < roles → i < roles → PairPart old new roles r s i
    → cell new roles i r ≡ true → RowJoined new next roles i s → PairPart old next roles r s (i + 1)
pair_then old new next roles r s i hr hs hi p test j = record { done = done'; todo = todo' }
  where
    here : (b : ℕ) → b < roles → cell next roles i b ≡ is_through (cell old roles) r s i b
    here b hb =
        joined_cell new next roles i s j b hb ∙ ap₂ ◌||◌ (p.todo i b (omega arith) hi hb) (row_stays old new roles r s i hs p b hb)
        ∙ sym (ap (λ t. cell old roles i b || (t && cell old roles s b)) (sym (p.todo i r (omega arith) hi hr) ∙ test))

    done' : (a b : ℕ) → a < i + 1 → a < roles → b < roles → cell next roles a b ≡ is_through (cell old roles) r s a b
    done' a b h ha hb = ⊎_elim (λ e. rw e (here b hb)) (λ d. other_cell new next roles i s j a b ha hb d ∙ p.done a b (omega arith) ha hb) (cases_eq a i)

    todo' : (a b : ℕ) → i + 1 ≤ a → a < roles → b < roles → cell next roles a b ≡ cell old roles a b
    todo' a b h ha hb = other_cell new next roles i s j a b ha hb (omega arith) ∙ p.todo a b (omega arith) ha hb

pub pair_else : (old new : List ℕ) (roles r s i : ℕ) → r < roles → i < roles → PairPart old new roles r s i → cell new roles i r ≡ false
    → PairPart old new roles r s (i + 1)
pair_else old new roles r s i hr hi p test = record { done = done'; todo = λ a b h ha hb. p.todo a b (omega arith) ha hb }
  where
    here : (b : ℕ) → b < roles → cell new roles i b ≡ is_through (cell old roles) r s i b
    here b hb =
        p.todo i b (omega arith) hi hb ∙ sym (or-false (cell old roles i b))
        ∙ sym (ap (λ t. cell old roles i b || (t && cell old roles s b)) (sym (p.todo i r (omega arith) hi hr) ∙ test))

    done' : (a b : ℕ) → a < i + 1 → a < roles → b < roles → cell new roles a b ≡ is_through (cell old roles) r s a b
    done' a b h ha hb = ⊎_elim (λ e. rw e (here b hb)) (λ d. p.done a b (omega arith) ha hb) (cases_eq a i)
