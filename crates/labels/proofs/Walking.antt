-- The numbers of a list looked at one by one, and whether each is above the one before it.
use Rattle.std.proofs.Common.{◌≡◌, ℕ, ◌+◌, ◌-◌, ◌<◌, ◌≤◌, true, false, ltb, List, [], ◌∷◌, length, get_or, drop, sym, ap, ◌∙◌, ⊎_elim, arith}
use Rattle.std.proofs.lemmas.List.{drop_more, drop_all}
use Rattle.std.proofs.lemmas.Bool.{cases_lt, lt-ltb, le-ltb, le-leb, lt-leb}
use Rattle.labels.specs.Labels.{falls}

-- what is left after place k begins with the number at k
module _ (ms xs ys : List ℕ) (k m : ℕ) (left : xs ≡ drop k ms) (next : xs ≡ m ∷ ys) where
  pub walked_below : k < length ms
  walked_below = ⊎_elim
      (λ (l : k < length ms). l)
      (λ (l : length ms ≤ k). let e : [] ≡ m ∷ ys = sym (drop_all k ms l) ∙ sym left ∙ next in let z : ◌≡◌ {A = ℕ} 0 1 = ap length e ∙ (let q : length (m ∷ ys) ≡ 1 = cc in q) in absurd (omega arith))
      (cases_lt k (length ms))

  whole : get_or ms k 0 ∷ drop (k + 1) ms ≡ m ∷ ys
  whole = sym (drop_more ms k 0 walked_below) ∙ sym left ∙ next

  pub walked_here : get_or ms k 0 ≡ m
  walked_here = let e = whole in cc

  pub walked_rest : ys ≡ drop (k + 1) ms
  walked_rest = let e = whole in cc

-- what the number at k has to reach is 0 for the first, and one more than the number before it for a later one
module _ (ms : List ℕ) (k m floor : ℕ) (first : k ≡ 0 → floor ≡ 0) (later : 0 < k → floor ≡ get_or ms (k - 1) 0 + 1) (here : get_or ms k 0 ≡ m) where
  pub falls_below : m < floor → falls ms k ≡ true
  falls_below h = ⊎_elim
      (λ (l : 0 < k). let e = later l in rw (lt-ltb 0 k l) (le-leb (get_or ms k 0) (get_or ms (k - 1) 0) (omega arith)))
      (λ (l : k ≤ 0). let e = first (omega arith) in absurd (omega arith))
      (cases_lt 0 k)

  pub rises_above : floor ≤ m → falls ms k ≡ false
  rises_above h = ⊎_elim
      (λ (l : 0 < k). let e = later l in rw (lt-ltb 0 k l) (lt-leb (get_or ms k 0) (get_or ms (k - 1) 0) (omega arith)))
      (λ (l : k ≤ 0). let e : k ≡ 0 = omega arith in rw e)
      (cases_lt 0 k)

  pub floor_test : ltb m floor ≡ falls ms k
  floor_test = ⊎_elim
      (λ (h : m < floor). lt-ltb m floor h ∙ sym (falls_below h))
      (λ (h : floor ≤ m). le-ltb m floor h ∙ sym (rises_above h))
      (cases_lt m floor)
