-- A row takes over another, word by word.
use Rattle.std.proofs.Common.{◌≡◌, ℕ, ◌+◌, ◌*◌, ◌/◌, ◌%◌, ◌<◌, ◌≤◌, ◌||◌, ◌≢◌, List, set, ap, ◌∙◌, ap₂, ⊎_elim, arith}
use lib.Bits.{bit_or}
use Rattle.std.proofs.lemmas.List.{get_or-set_same, get_or-set_other}
use Rattle.std.proofs.lemmas.Bool.{cases_eq}
use Rattle.bits.specs.Bits.{bit}
use Rattle.bits.proofs.BitFacts.{bit-bit_or}
use Rattle.closure.specs.Closure.{row_words, Square, row_word, cell, RowJoined}
use Rattle.closure.proofs.Places.{place, place_row, place_column}

-- row i has taken over the first k words of row s
pub record RowPart (old new : List ℕ) (roles i s k : ℕ) : Type 0 where
  pub done : (b : ℕ) → b < k → b < row_words roles → row_word new roles i b ≡ bit_or (row_word old roles i b) (row_word old roles s b)
  pub todo : (b : ℕ) → k ≤ b → b < row_words roles → row_word new roles i b ≡ row_word old roles i b
  pub others : (a b : ℕ) → a < roles → b < row_words roles → a ≢ i → row_word new roles a b ≡ row_word old roles a b

pub row_more : (old new : List ℕ) (roles i s k : ℕ) → Square new roles → i < roles → s < roles → k < row_words roles → RowPart old new roles i s k
    → RowPart old (set new (i * row_words roles + k) (bit_or (row_word new roles i k) (row_word new roles s k))) roles i s (k + 1)
row_more old new roles i s k square hi hs hk p = record { done = done'; todo = todo'; others = others' }
  where
    next : List ℕ
    next = set new (i * row_words roles + k) (bit_or (row_word new roles i k) (row_word new roles s k))

    -- if s is i, its word k is still to do
    in_s : row_word new roles s k ≡ row_word old roles s k
    in_s = ⊎_elim (λ e. rw e (p.todo k (omega arith) hk)) (λ d. p.others s k hs hk d) (cases_eq s i)

    here : row_word next roles i k ≡ bit_or (row_word old roles i k) (row_word old roles s k)
    here = get_or-set_same new (i * row_words roles + k) _ 0 (rw square (place roles (row_words roles) i k hi hk)) ∙ ap₂ bit_or (p.todo k (omega arith) hk) in_s

    away : (a b : ℕ) → b < row_words roles → (a ≡ i → b ≢ k) → row_word next roles a b ≡ row_word new roles a b
    away a b hb d =
        get_or-set_other new (i * row_words roles + k) (a * row_words roles + b) _ 0
        (λ e. d (place_row (row_words roles) a b i k hb hk e) (place_column (row_words roles) a b i k hb hk e))

    done' : (b : ℕ) → b < k + 1 → b < row_words roles → row_word next roles i b ≡ bit_or (row_word old roles i b) (row_word old roles s b)
    done' b h l = ⊎_elim (λ e. rw e here) (λ d. away i b l (λ _. d) ∙ p.done b (omega arith) l) (cases_eq b k)

    todo' : (b : ℕ) → k + 1 ≤ b → b < row_words roles → row_word next roles i b ≡ row_word old roles i b
    todo' b h l = away i b l (λ _. omega arith) ∙ p.todo b (omega arith) l

    others' : (a b : ℕ) → a < roles → b < row_words roles → a ≢ i → row_word next roles a b ≡ row_word old roles a b
    others' a b ha hb d = away a b hb (λ e. absurd (d e)) ∙ p.others a b ha hb d

-- bit by bit
pub joined_cell : (old new : List ℕ) (roles i s : ℕ) → RowJoined old new roles i s → (b : ℕ) → b < roles
    → cell new roles i b ≡ (cell old roles i b || cell old roles s b)
joined_cell old new roles i s p b h =
    ap (λ w. bit w (b % 64)) (p.joined (b / 64) (omega arith)) ∙ bit-bit_or (row_word old roles i (b / 64)) (row_word old roles s (b / 64)) (b % 64)

pub other_cell : (old new : List ℕ) (roles i s : ℕ) → RowJoined old new roles i s → (a b : ℕ) → a < roles → b < roles → a ≢ i
    → cell new roles a b ≡ cell old roles a b
other_cell old new roles i s p a b ha hb d = ap (λ w. bit w (b % 64)) (p.others a (b / 64) ha (omega arith) d)
