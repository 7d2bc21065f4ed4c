-- Entries that refer to earlier ones alone, by a test: so a register can be written down.
use Rattle.std.specs.Prelude.{◌≡◌, ℕ, zero, suc, ◌<◌, Bool, true, false, cond, ◌&&◌, List, [], ◌∷◌}
use Rattle.std.specs.Prelude.{◌++◌, length, take, slice_index_or}
use Rattle.std.proofs.Common.{refl, sym, subst}
use Rattle.std.proofs.Math.Nat.{le_of_suc-le-suc}
use Rattle.std.proofs.Math.Bridge.{no_suc-le-zero}
use Rattle.std.proofs.Math.Seq.{take-append_seam}
use Rattle.std.proofs.lemmas.Bool.{and_parts}
use Rattle.register.specs.References.{all_below, Ordered}

module _ {E : Type 0} (references : E → List ℕ) where
  -- whether each entry refers to earlier ones alone, where entry k has the place f k
  abbrev pub refers_back : (ℕ → ℕ) → List E → Bool
  refers_back f [] = true
  refers_back f (e ∷ es) = all_below (references e) (f 0) && refers_back (λ k. f (suc k)) es

  -- the entries, if they pass; else none
  abbrev pub passed : List E → List E
  passed es = cond (refers_back (λ k. k) es) es []

  back_at : (f : ℕ → ℕ) (es : List E) → refers_back f es ≡ true → (k : ℕ) (d : E) → k < length es
      → all_below (references (slice_index_or es k d)) (f k) ≡ true
  back_at f [] h k d l = absurd (no_suc-le-zero l)
  back_at f (e ∷ es) h zero d l = (and_parts (all_below (references e) (f 0)) _ h).0
  back_at f (e ∷ es) h (suc k) d l =
      let rest = (and_parts (all_below (references e) (f 0)) _ h).1 in
      back_at (λ k. f (suc k)) es rest k d (le_of_suc-le-suc l)

  ordered_if : (es : List E) (b : Bool) → refers_back (λ k. k) es ≡ b
      → Ordered references (cond b es [])
  ordered_if es true h = back_at (λ k. k) es h
  ordered_if es false h = λ k d l. absurd (no_suc-le-zero l)

  -- and so they are the first ones of a memory, whatever follows
  pub passed_ordered : (es rest : List E)
      → Ordered references (take (length (passed es)) (passed es ++ rest))
  passed_ordered es rest =
      let here = ordered_if es (refers_back (λ k. k) es) refl in
      subst (Ordered references) (sym (take-append_seam (passed es) rest)) here
