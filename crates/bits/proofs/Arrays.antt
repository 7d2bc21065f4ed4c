-- What an array has that was made by a function of its places.
use Rattle.std.proofs.Common.{◌≡◌, ℕ, zero, suc, ◌+◌, ◌<◌, ◌≤◌, List, get_or, refl, sym, ap, ◌∙◌, subst, ⊎_elim, arith}
use Rattle.std.proofs.lemmas.Bool.{cases_eq}
use Rattle.std.specs.Array.{IsFromFnResult, IsFromFnResultFrom}
use denote.Param.Members.{Mut, Called}

-- a call of f leaves it as it was, and answers h
module _ {F : Type 0} (g : Mut F (ℕ × Unit {0}) ℕ) (f : F) (h : ℕ → ℕ) (answers : (i y : ℕ) (q : F) → Called g f (i, tt) y q → (q ≡ f) × (y ≡ h i)) where
  made_from : (ys : List ℕ) (p : F) → p ≡ f → (i n : ℕ) → IsFromFnResultFrom g p ys i n → (k : ℕ) → i ≤ k → k < i + n → get_or ys k 0 ≡ h k
  made_from ys p e i zero r k l m = absurd (omega arith)
  made_from ys p e i (suc n) (q, y, here, call, rest) k l m =
      let (same, value) = answers i y q (subst (λ (x : F). Called g x (i, tt) y q) e call) in
      ⊎_elim
      (λ (j : i ≡ k). ap (λ x. get_or ys x 0) (sym j) ∙ here.1 0 ∙ value ∙ ap h j)
      (λ (j : i ≡ k → ⊥). made_from ys q same (i + 1) n rest k (omega arith) (omega arith))
      (cases_eq i k)

  pub made_at : (ys : List ℕ) (n : ℕ) → IsFromFnResult g f ys n → (k : ℕ) → k < n → get_or ys k 0 ≡ h k
  made_at ys n r k l = made_from ys f refl 0 n r.each k (omega arith) (omega arith)
