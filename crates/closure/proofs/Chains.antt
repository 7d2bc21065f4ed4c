-- A closed relation stays closed when a pair is put in, and its inverse after it.
use Rattle.std.proofs.Common.{ℕ, ◌⊎◌, inl, inr}
use Rattle.logic.specs.Roles.{inverse}
use Rattle.logic.proofs.RoleFacts.{inverse_inverse}

-- R with the pair (r, s) put in: it leads from i to j as before, or through the pair
abbrev pub Through : (ℕ → ℕ → Type 0) → ℕ → ℕ → ℕ → ℕ → Type 0
Through R r s i j = R i j ⊎ (R i r × R s j)

-- R with the pair and its inverse put in
abbrev pub Twice : (ℕ → ℕ → Type 0) → ℕ → ℕ → ℕ → ℕ → Type 0
Twice R r s = Through (Through R r s) (inverse r) (inverse s)

module _ (R : ℕ → ℕ → Type 0) (self : (i : ℕ) → R i i) (chain : (i j k : ℕ) → R i j → R j k → R i k) (r s : ℕ) where
  through_self : (i : ℕ) → Through R r s i i
  through_self i = inl (self i)

  through_pair : Through R r s r s
  through_pair = inr (self r, self s)

  through_chain : (i j k : ℕ) → Through R r s i j → Through R r s j k → Through R r s i k
  through_chain i j k (inl p) (inl q) = inl (chain i j k p q)
  through_chain i j k (inl p) (inr q) = inr (chain i j r p q.0, q.1)
  through_chain i j k (inr p) (inl q) = inr (p.0, chain s j k p.1 q)
  through_chain i j k (inr p) (inr q) = inr (p.0, q.1)

module _ (R : ℕ → ℕ → Type 0) (self : (i : ℕ) → R i i) (chain : (i j k : ℕ) → R i j → R j k → R i k) (r s : ℕ) where
  pub twice_pair : Twice R r s r s
  twice_pair = inl (through_pair R self chain r s)

  pub twice_chain : (i j k : ℕ) → Twice R r s i j → Twice R r s j k → Twice R r s i k
  twice_chain = through_chain (Through R r s) (through_self R self chain r s) (through_chain R self chain r s) (inverse r) (inverse s)

  inverse_pair : Twice R r s (inverse r) (inverse s)
  inverse_pair = through_pair (Through R r s) (through_self R self chain r s) (through_chain R self chain r s) (inverse r) (inverse s)

  module _ (flip : (i j : ℕ) → R i j → R (inverse i) (inverse j)) where
    once_flip : (i j : ℕ) → Through R r s i j → Twice R r s (inverse i) (inverse j)
    once_flip i j (inl p) = inl (inl (flip i j p))
    once_flip i j (inr p) =
        twice_chain (inverse i) (inverse r) (inverse j) (inl (inl (flip i r p.0)))
        (twice_chain (inverse r) (inverse s) (inverse j) inverse_pair (inl (inl (flip s j p.1))))

    pub twice_flip : (i j : ℕ) → Twice R r s i j → Twice R r s (inverse i) (inverse j)
    twice_flip i j (inl p) = once_flip i j p
    twice_flip i j (inr p) =
        let u : Twice R r s (inverse i) r = rw inverse_inverse at (once_flip i (inverse r) p.0) in
        let v : Twice R r s s (inverse j) = rw inverse_inverse at (once_flip (inverse s) j p.1) in
        twice_chain (inverse i) r (inverse j) u (twice_chain r s (inverse j) twice_pair v)
