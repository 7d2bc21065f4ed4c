-- The table is exact at the start, and stays exact with each axiom more.
use Rattle.std.proofs.Common.{◌≡◌, ℕ, ◌+◌, ◌*◌, ◌/◌, ◌%◌, ◌^◌, ◌<◌, T, eqb, ◌≢◌, ◌↔◌, List, [], ◌∷◌, ◌++◌, get_or, sym, ap, ◌∙◌, ap₂, ⊎_elim, arith}
use mathlib.Core.Logic.Iff
use Rattle.std.proofs.lemmas.Nat.{div-mul-add, mod-mul-add}
use Rattle.std.proofs.lemmas.Bool.{cases_eq, eq-eqb, ne_eqb, cond-true, cond-false}
use Rattle.bits.specs.Bits.{bit}
use Rattle.bits.proofs.BitFacts.{bit_zero, pow_same, bit_pow_other}
use Rattle.logic.specs.declared.role.RoleAxiom.{RoleAxiom}
use Rattle.logic.specs.declared.role.RoleAxiom.TheVariants.{Inclusion, Transitivity}
use Rattle.logic.specs.Roles.{inverse, Below}
use Rattle.closure.specs.Closure.{row_words, cell, own_word, PairAdded, Exact}
use Rattle.closure.proofs.Chains.{Through, Twice}
use Rattle.closure.proofs.BelowFacts.{below_transitivity, below_inclusion}
use Rattle.closure.proofs.Decided.{through_decided, eqb_decided}
use Rattle.closure.proofs.Places.{place}

-- a role is below itself alone
own_cell : (i j : ℕ) → bit (own_word i (j / 64)) (j % 64) ≡ eqb i j
own_cell i j = ⊎_elim same_word other_word (cases_eq (j / 64) (i / 64))
  where
    same_word : j / 64 ≡ i / 64 → bit (own_word i (j / 64)) (j % 64) ≡ eqb i j
    same_word e = ap (λ w. bit w (j % 64)) (cond-true (eqb (j / 64) (i / 64)) (2 ^ (i % 64)) 0 (eq-eqb (j / 64) (i / 64) e)) ∙ ⊎_elim
        (λ (q : i ≡ j). ap (λ x. bit (2 ^ (i % 64)) (x % 64)) (sym q) ∙ pow_same (i % 64) ∙ sym (eq-eqb i j q))
        (λ (d : i ≡ j → ⊥). let n : j % 64 ≢ i % 64 = omega arith in bit_pow_other (j % 64) (i % 64) n ∙ sym (ne_eqb i j d))
        (cases_eq i j)

    other_word : j / 64 ≢ i / 64 → bit (own_word i (j / 64)) (j % 64) ≡ eqb i j
    other_word d =
        let n : i ≢ j = omega arith in
        ap (λ w. bit w (j % 64)) (cond-false (eqb (j / 64) (i / 64)) (2 ^ (i % 64)) 0 (ne_eqb (j / 64) (i / 64) d)) ∙ bit_zero (j % 64) ∙ sym (ne_eqb i j n)

pub exact_start : (table : List ℕ) (roles : ℕ)
    → ((at : ℕ) → at < roles * row_words roles → get_or table at 0 ≡ own_word (at / row_words roles) (at % row_words roles)) → Exact table roles []
exact_start table roles all i j hi hj = rw own (eqb_decided i j)
  where
    column : j / 64 < row_words roles
    column = omega arith

    own : cell table roles i j ≡ eqb i j
    own =
        ap (λ w. bit w (j % 64)) (all (i * row_words roles + j / 64) (place roles (row_words roles) i (j / 64) hi column)
        ∙ ap₂ own_word (div-mul-add i (row_words roles) (j / 64) column) (mod-mul-add i (row_words roles) (j / 64) column))
        ∙ own_cell i j

-- a pair and its inverse put in are one inclusion more
pub exact_inclusion : (old mid new : List ℕ) (roles r s : ℕ) (axioms : List RoleAxiom) → r < roles → s < roles → inverse r < roles → inverse s < roles
    → PairAdded old mid roles r s → PairAdded mid new roles (inverse r) (inverse s) → Exact old roles axioms → Exact new roles (axioms ++ (Inclusion r s ∷ []))
exact_inclusion old mid new roles r s axioms hr hs hr' hs' first second exact i j hi hj = Iff.trans twice (below_inclusion axioms r s i j)
  where
    once : (a b : ℕ) → a < roles → b < roles → T (cell mid roles a b) ↔ Through (Below axioms) r s a b
    once a b ha hb =
        rw (first a b ha hb) (through_decided (cell old roles) (Below axioms) r s a b (exact a b ha hb) (exact a r ha hr) (exact s b hs hb))

    twice : T (cell new roles i j) ↔ Twice (Below axioms) r s i j
    twice =
        rw (second i j hi hj) (through_decided (cell mid roles) (Through (Below axioms) r s) (inverse r) (inverse s) i j
        (once i j hi hj) (once i (inverse r) hi hr') (once (inverse s) j hs' hj))

-- a transitivity changes nothing
pub exact_transitivity : (table : List ℕ) (roles r : ℕ) (axioms : List RoleAxiom)
    → Exact table roles axioms → Exact table roles (axioms ++ (Transitivity r ∷ []))
exact_transitivity table roles r axioms exact i j hi hj = Iff.trans (exact i j hi hj) (below_transitivity axioms r i j)
