-- What has been written of a text, where the bytes of the output are known.
use Rattle.std.proofs.Common.{◌≡◌, ℕ, List, ◌+◌, ◌++◌, length, take, Some, None, Option, Ok, Err, Result, IsErrAnd, OnOk, OnErr, refl, sym, ap, subst, ◌∙◌, append_assoc, length-append, arith}
use Rattle.std.proofs.Math.Seq.{take-append-add}
use Rattle.std.proofs.lemmas.List.{take-append-le}
use Rattle.std.specs.Io.KnownBytes.{Keeps, Appends}
use Rattle.console.specs.Outputs.{AppendsFront, AppendsAllBut}

-- what is not written to stays
pub keeps_same : (old : Option (List ℕ)) → Keeps old old
keeps_same None = tt
keeps_same (Some xs) = refl

-- a part more is written
pub append_more : (old mid new : Option (List ℕ)) (xs ys zs : List ℕ) → zs ≡ xs ++ ys → Appends old mid xs → Appends mid new ys → Appends old new zs
append_more None mid new xs ys zs e p q = tt
append_more (Some ws) None new xs ys zs e p q = absurd p
append_more (Some ws) (Some bs) None xs ys zs e p q = absurd q
append_more (Some ws) (Some bs) (Some cs) xs ys zs e p q =
    q ∙ ap (λ l. l ++ ys) p ∙ append_assoc ws xs ys ∙ ap (λ l. ws ++ l) (sym e)

-- a part more: of what was held back and of what comes behind it, all but the end is written
pub hold_later : (old mid new : Option (List ℕ)) (text held more kept all : List ℕ) → all ≡ text ++ more
    → AppendsAllBut old mid text held → AppendsAllBut mid new (held ++ more) kept → AppendsAllBut old new all kept
hold_later old mid new text held more kept all is_all (xs, p, e) (ys, q, f) = (
  xs ++ ys,
  append_more old mid new xs ys (xs ++ ys) refl p q,
  append_assoc xs ys kept ∙ ap (λ l. xs ++ l) f ∙ sym (append_assoc xs held more) ∙ ap (λ l. l ++ more) e ∙ sym is_all,
)

-- what was held back is written too
pub hold_none : (old mid new : Option (List ℕ)) (text held : List ℕ) → AppendsAllBut old mid text held → Appends mid new held → Appends old new text
hold_none old mid new text held (xs, p, e) q = append_more old mid new xs held text (sym e) p q

-- a beginning of what was held back is written: that is a beginning of the text, whatever comes behind it
pub hold_front : (old mid new : Option (List ℕ)) (text held more all : List ℕ) → all ≡ text ++ more
    → AppendsAllBut old mid text held → AppendsFront mid new held → AppendsFront old new all
hold_front old mid new text held more all is_all (xs, p, e) (n, few, q) =
    let split : all ≡ xs ++ (held ++ more) = is_all ∙ ap (λ l. l ++ more) (sym e) ∙ append_assoc xs held more in (
      length xs + n,
      omega (arith, few, ap length split, length-append xs (held ++ more), length-append held more),
      append_more old mid new xs (take n held) (take (length xs + n) all)
          (ap (take (length xs + n)) split ∙ take-append-add xs (held ++ more) n ∙ ap (λ l. xs ++ l) (take-append-le n held more few))
          p q,
    )

-- what follows on success, and on failure
pub on_ok_map : {X E : Type 0} {P Q : Type 0} (r : Result X E) → (P → Q) → OnOk r P → OnOk r Q
on_ok_map (Ok x) f p = f p
on_ok_map (Err e) f p = tt

pub on_err_map : {X E : Type 0} {P Q : Type 0} (r : Result X E) → (P → Q) → OnErr r P → OnErr r Q
on_err_map (Ok x) f p = tt
on_err_map (Err e) f p = f p

pub on_err : {X E : Type 0} {P : Type 0} (r : Result X E) → P → OnErr r P
on_err (Ok x) p = tt
on_err (Err e) p = p

-- what holds of an error holds of the result that is that error
pub error_is : {X E : Type 0} (P : Result X E → Type 0) (r : Result X E) (e : E) → IsErrAnd r (λ f. f ≡ e) → P (Err e) → P r
error_is P (Ok x) e h p = absurd h
error_is P (Err f) e h p = subst (λ g. P (Err g)) (sym h) p
