-- Interleaved events: how they are regrouped, and what is before one of them.
use Rattle.std.proofs.Common.{◌≡◌, ℕ, ◌+◌, ◌≤◌, List, [], ◌∷◌, ◌++◌, length, refl, ap, ◌∙◌, subst, arith}
use Rattle.std.proofs.lemmas.List.{length_push}
use Rattle.docket.specs.declared.Docket.{Docket}
use Rattle.docket.specs.Runs.{Event, Banks, Ran}
use Rattle.facts.specs.Events.{Each, Interleaved, none, left, right}

pub swapped : {xs ys zs : List Event} → Interleaved xs ys zs → Interleaved ys xs zs
swapped none = none
swapped (left p) = right (swapped p)
swapped (right p) = left (swapped p)

-- of three lists, the first with the other two
pub regrouped : {zs os run : List Event} → Interleaved zs os run → {xs ys : List Event} → Interleaved xs ys zs
    → (rest : List Event) × Interleaved ys os rest × Interleaved xs rest run
regrouped none none = ([], none, none)
regrouped (left q) (left p) = let (r, a, b) = regrouped q p in (r, a, left b)
regrouped (left {x = x} q) (right p) = let (r, a, b) = regrouped q p in (x ∷ r, left a, right b)
regrouped (right {y = y} q) p = let (r, a, b) = regrouped q p in (y ∷ r, right a, right b)

alone : {ys zs : List Event} → Interleaved [] ys zs → zs ≡ ys
alone none = refl
alone (right {y = y} p) = ap (λ xs. y ∷ xs) (alone p)

pub length_interleaved : {xs ys zs : List Event} → Interleaved xs ys zs → length zs ≡ length xs + length ys
length_interleaved none = refl
length_interleaved (left p) = let e = length_interleaved p in omega arith
length_interleaved (right p) = let e = length_interleaved p in omega arith

-- the last of the first list: what came before it, and what came after
pub record Split (xs : List Event) (x : Event) (os run : List Event) : Type 0 where
  pub before : List Event
  pub after : List Event
  pub early : List Event
  pub run_is : run ≡ before ++ x ∷ after
  pub others_are : os ≡ early ++ after
  pub earlier : Interleaved xs early before

pub split : {vs os run : List Event} → Interleaved vs os run → (xs : List Event) (x : Event) → vs ≡ xs ++ x ∷ []
    → Split xs x os run
split none xs x e = absurd (omega (arith, ap length e, length_push xs x))
split (left {x = y} {xs = ws} {ys = ys} {zs = zs} p) [] x e =
    let y_is : y ≡ x = cc in
    let none_left : ws ≡ [] = cc in
    let rest : zs ≡ ys = alone (subst (λ (us : List Event). Interleaved us ys zs) none_left p) in
    record { before = []; after = ys; early = []; run_is = cc; others_are = refl; earlier = none }
split (left {x = y} {xs = ws} {zs = zs} p) (z ∷ xs) x e =
    let y_is : y ≡ z = cc in
    let w_is : ws ≡ xs ++ x ∷ [] = cc in
    let s = split p xs x w_is in
    record {
      before = z ∷ s.before;
      after = s.after;
      early = s.early;
      run_is = ap (λ u. u ∷ zs) y_is ∙ ap (λ us. z ∷ us) s.run_is;
      others_are = s.others_are;
      earlier = left s.earlier;
    }
split (right {y = y} p) xs x e =
    let s = split p xs x e in
    record {
      before = y ∷ s.before;
      after = s.after;
      early = y ∷ s.early;
      run_is = ap (λ zs. y ∷ zs) s.run_is;
      others_are = ap (λ zs. y ∷ zs) s.others_are;
      earlier = right s.earlier;
    }

pub ran_split : (b : Banks) (xs ys : List Event) (d e : Docket) → Ran b d (xs ++ ys) e
    → (m : Docket) × Ran b d xs m × Ran b m ys e
ran_split b [] ys d e r = (d, refl, r)
ran_split b (x ∷ xs) ys d e r = let (m, p, q) = ran_split b xs ys r.0 e r.3 in (m, (r.0, r.1, r.2, p), q)

module _ (P : Event → Type 0) where
  pub each_split : (xs ys : List Event) → Each P (xs ++ ys) → Each P xs × Each P ys
  each_split [] ys h = (tt, h)
  each_split (x ∷ xs) ys h = let (a, b) = each_split xs ys h.1 in ((h.0, a), b)

  pub each_push : (xs : List Event) (x : Event) → Each P xs → P x → Each P (xs ++ x ∷ [])
  each_push [] x h p = (p, tt)
  each_push (y ∷ xs) x h p = (h.0, each_push xs x h.1 p)

  pub each_interleaved : {xs ys zs : List Event} → Interleaved xs ys zs → Each P xs → Each P ys → Each P zs
  each_interleaved none h k = tt
  each_interleaved (left p) h k = (h.0, each_interleaved p h.1 k)
  each_interleaved (right p) h k = (k.0, each_interleaved p h k.1)

pub each_map : (P Q : Event → Type 0) → ((x : Event) → P x → Q x) → (xs : List Event) → Each P xs → Each Q xs
each_map P Q f [] h = tt
each_map P Q f (x ∷ xs) h = (f x h.0, each_map P Q f xs h.1)

-- sums over the events
module _ (weight : Event → ℕ) where
  abbrev pub sum : List Event → ℕ
  sum [] = 0
  sum (x ∷ xs) = weight x + sum xs

  pub sum_append : (xs ys : List Event) → sum (xs ++ ys) ≡ sum xs + sum ys
  sum_append [] ys = omega arith
  sum_append (x ∷ xs) ys = let e = sum_append xs ys in omega arith

  pub sum_interleaved : {xs ys zs : List Event} → Interleaved xs ys zs → sum zs ≡ sum xs + sum ys
  sum_interleaved none = refl
  sum_interleaved (left p) = let e = sum_interleaved p in omega arith
  sum_interleaved (right p) = let e = sum_interleaved p in omega arith

  pub sum_short : ((x : Event) → weight x ≤ 1) → (xs : List Event) → sum xs ≤ length xs
  sum_short f [] = omega arith
  sum_short f (x ∷ xs) = let e = sum_short f xs in let h = f x in omega arith
