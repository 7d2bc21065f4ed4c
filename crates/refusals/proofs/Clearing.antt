-- What it says that no check refuses.
use Rattle.std.proofs.Common.{◌≡◌, ℕ, Bool, true, false, List, [], ◌∷◌, ◌++◌, Some, None, Option, refl, ap, ◌∙◌, arith}
use Rattle.refusals.specs.Checks.{when, otherwise, first}

-- no check refuses
abbrev pub Clear : {A : Type 0} → List (Option A) → Type 0
Clear [] = Unit {0}
Clear (x ∷ xs) = (x ≡ None) × Clear xs

otherwise_none : {A : Type 0} (x y : Option A) → otherwise x y ≡ None → (x ≡ None) × (y ≡ None)
otherwise_none None y h = (refl, h)
otherwise_none (Some x) y h = let z : ◌≡◌ {A = ℕ} 0 1 = cc in absurd (omega arith)

pub clear : {A : Type 0} (xs : List (Option A)) → first xs ≡ None → Clear xs
clear [] h = tt
clear (x ∷ xs) h = let p = otherwise_none x (first xs) h in (p.0, clear xs p.1)

pub cleared : {A : Type 0} (xs : List (Option A)) → Clear xs → first xs ≡ None
cleared [] h = refl
cleared (x ∷ xs) h = ap (λ o. otherwise o (first xs)) h.0 ∙ cleared xs h.1

pub when_none : {A : Type 0} (b : Bool) (x : A) → when b x ≡ None → b ≡ false
when_none true x h = let z : ◌≡◌ {A = ℕ} 0 1 = cc in absurd (omega arith)
when_none false x h = refl

pub none_when : {A : Type 0} (b : Bool) (x : A) → b ≡ false → when b x ≡ None
none_when b x h = ap (λ c. when c x) h

-- checks after others
pub first_append : {A : Type 0} (xs ys : List (Option A)) → first (xs ++ ys) ≡ otherwise (first xs) (first ys)
first_append [] ys = refl
first_append (None ∷ xs) ys = first_append xs ys
first_append (Some x ∷ xs) ys = refl

pub first_behind : {A : Type 0} (xs ys : List (Option A)) (r : Option A) → first xs ≡ None → first ys ≡ r → first (xs ++ ys) ≡ r
first_behind xs ys r h k = first_append xs ys ∙ ap (λ o. otherwise o (first ys)) h ∙ k

pub first_before : {A : Type 0} (xs ys : List (Option A)) (x : A) → first xs ≡ Some x → first (xs ++ ys) ≡ Some x
first_before xs ys x h = first_append xs ys ∙ ap (λ o. otherwise o (first ys)) h
