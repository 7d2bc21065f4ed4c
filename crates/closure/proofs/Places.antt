-- Places of a table whose rows stand one after another in a slice.
use Rattle.std.proofs.Common.{◌≡◌, ℕ, ◌+◌, ◌*◌, ◌/◌, ◌%◌, ◌<◌, List, length, sym, ap, ◌∙◌, arith}
use Rattle.std.proofs.lemmas.Nat.{mul-add-lt, div-mul-add, mod-mul-add}
use Rattle.closure.specs.Closure.{row_words, Square}

-- column b of row a, where there are h rows of w columns
pub place : (h w a b : ℕ) → a < h → b < w → a * w + b < h * w
place h w a b p q = omega (arith, mul-add-lt a w b h p q)

pub place_row : (w a b i j : ℕ) → b < w → j < w → a * w + b ≡ i * w + j → a ≡ i
place_row w a b i j p q e = sym (div-mul-add a w b p) ∙ ap (λ x. x / w) e ∙ div-mul-add i w j q

pub place_column : (w a b i j : ℕ) → b < w → j < w → a * w + b ≡ i * w + j → b ≡ j
place_column w a b i j p q e = sym (mod-mul-add a w b p) ∙ ap (λ x. x % w) e ∙ mod-mul-add i w j q

-- word k of row i stands in the table
pub in_table : (table : List ℕ) (roles width i k : ℕ)
    → Square table roles → width ≡ row_words roles → i < roles → k < row_words roles → i * width + k < length table
in_table table roles width i k square e hi hk = rw (square, e) (place roles (row_words roles) i k hi hk)
