-- A row whose words are known one by one.
use Rattle.std.proofs.Common.{◌≡◌, ℕ, ◌+◌, ◌*◌, ◌/◌, ◌%◌, ◌<◌, ◌≤◌, Bool, ◌&&◌, ltb, List, length, get_or, sym, ap, ◌∙◌, ⊎_elim, arith}
use Rattle.std.proofs.lemmas.Bool.{cases_lt, lt-ltb, le-ltb}
use Rattle.bits.specs.Bits.{has}
use Rattle.bits.proofs.BitFacts.{has_past}
use Rattle.labels.specs.Labels.{Row}
use Rattle.labels.proofs.WordSearch.{Tests}

pub words_row : (r : List ℕ) (test : ℕ → Bool) → length r ≡ 16 → ((w : ℕ) → w < 16 → Tests (get_or r w 0) w test) → Row r test
words_row r test size words = (size, λ c. ⊎_elim (inside c) (past c) (cases_lt c 1024))
  where
    inside : (c : ℕ) → c < 1024 → has r c ≡ (ltb c 1024 && test c)
    inside c l =
        let e : 64 * (c / 64) + c % 64 ≡ c = omega arith in
        words (c / 64) (omega arith) (c % 64) (omega arith) ∙ ap test e ∙ sym (ap (λ b. b && test c) (lt-ltb c 1024 l))

    past : (c : ℕ) → 1024 ≤ c → has r c ≡ (ltb c 1024 && test c)
    past c l = has_past r c (omega arith) ∙ sym (ap (λ b. b && test c) (le-ltb c 1024 l))
