-- What an answer was, once another error type stands for its refusals.
use Rattle.std.proofs.Common.{◌≡◌, ℕ, Ok, Err, Result, sym, ap}
use Rattle.std.specs.Result.{MatchResult}
use Rattle.refusals.specs.declared.Refusal.{Refusal}

-- an answer that another error type did not stop
pub answered : (E : Type 0) (a : Result ℕ Refusal) (n : ℕ) → MatchResult a (λ i. ◌≡◌ {A = Result ℕ E} (Ok n) (Ok i)) (λ x. ⊥) → a ≡ Ok n
answered E (Ok i) n h = let e : n ≡ i = cc in ap (λ k. Ok k) (sym e)
answered E (Err x) n h = absurd h
