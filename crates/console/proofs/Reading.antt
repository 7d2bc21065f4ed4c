-- What has been read of an input, where its bytes are known.
use Rattle.std.proofs.Common.{◌≡◌, ℕ, ◌+◌, ◌≤◌, List, [], ◌++◌, length, take, drop, Some, None, Option, refl, sym, ap, ◌∙◌, append_assoc, length-take, length-drop, arith}
use Rattle.std.proofs.lemmas.List.{drop-drop}
use Rattle.std.proofs.lemmas.Slice.{take-put_mid, drop-put_mid}
use Rattle.std.specs.Io.KnownBytes.{Consumes}
use borrow.Rule.Slice.PartMut.{put_mid, same_len_mid}

-- nothing is read yet
pub read_none : (old : Option (List ℕ)) → Consumes old old []
read_none None = tt
read_none (Some xs) = refl

-- a part more is read
pub read_more : (old mid new : Option (List ℕ)) (xs ys zs : List ℕ) → zs ≡ xs ++ ys → Consumes old mid xs → Consumes mid new ys → Consumes old new zs
read_more None mid new xs ys zs e p q = tt
read_more (Some ws) None new xs ys zs e p q = absurd p
read_more (Some ws) (Some bs) None xs ys zs e p q = absurd q
read_more (Some ws) (Some bs) (Some cs) xs ys zs e p q = p ∙ ap (λ l. xs ++ l) q ∙ sym (append_assoc xs ys cs) ∙ ap (λ l. l ++ cs) (sym e)

-- a part of k bytes is written behind the first a bytes of a buffer
module _ (buffer part : List ℕ) (a k n : ℕ) (end : n ≡ a + k) (inside : n ≤ length buffer) (size : length part ≡ k) where
  pub front_grows : take n (put_mid a k buffer part) ≡ take a buffer ++ part
  front_grows = take-put_mid a k buffer part n (omega (arith, size, end)) (omega (arith, inside, end))

  pub behind_stays : (first : List ℕ) → drop a buffer ≡ drop a first → drop n (put_mid a k buffer part) ≡ drop n first
  behind_stays first e =
      drop-put_mid a k buffer part n (omega (arith, end)) (omega (arith, inside, end)) size
      ∙ ap (λ m. drop m buffer) end
      ∙ sym (drop-drop k a buffer)
      ∙ ap (drop k) e
      ∙ drop-drop k a first
      ∙ ap (λ m. drop m first) (sym end)

  pub as_long : length (put_mid a k buffer part) ≡ length buffer
  as_long = same_len_mid a k buffer part (omega (arith, size, end, inside, length-take k (drop a buffer), length-drop a buffer))
