-- Filing and pairing keep what every theory keeps, and mates are opposites all the way down.
use Rattle.std.proofs.Common.{◌≡◌, ℕ, zero, suc, ◌<◌, ◌≤◌, true, ◌⊎◌, List, [], ◌∷◌, ◌++◌, length, None, sym, ◌∙◌, subst, inl, inr, ⊎_elim, arith}
use mathlib.Core.List.Memᴰ
use mathlib.Core.List.{Memᴰ}
use Rattle.std.proofs.lemmas.List.{get_or_append_left, get_or_push, length_push}
use Rattle.std.proofs.lemmas.Bool.{cases_lt}
use Rattle.register.specs.References.{all_below}
use Rattle.register.proofs.Stores.{ordered_push}
use Rattle.logic.specs.declared.concept.Concept.{Concept}
use Rattle.logic.specs.declared.concept.Concept.TheVariants.{Top, And, Or, Only, Exists}
use Rattle.logic.specs.declared.role.RoleAxiom.{RoleAxiom}
use Rattle.logic.specs.Concepts.{parts, At}
use Rattle.logic.specs.Roles.{NamesBelow}
use Rattle.logic.specs.Opposites.{Opposite, top_bottom as opposite-top, name_not_name as opposite-name, and_or as opposite-and, only_exists as opposite-only, swapped as opposite-swapped}
use Rattle.logic.specs.Theories.{Theory, AreMates}
use Rattle.logic.specs.Pairing.{Negates, top_bottom, name_not_name, and_or, only_exists, swapped, Opposed, Pairable, joined}
use Rattle.logic.specs.Keeping.{InRange, Kept}
use Rattle.logic.proofs.Meanings.{at_append, parts_below, one_below, two_below}
use Rattle.logic.proofs.Mating.{mate_first, mate_second, mates_now, still_mates, still_negates}

-- nothing said yet
pub kept_new : (t : Theory) → t.role_axioms ≡ [] → t.concepts ≡ [] → ((c : ℕ) → t.mates c ≡ None) → t.axioms ≡ [] → Kept t
kept_new t no_role_axiom no_concept no_mate no_axiom = record {
  few_role_axioms = rw no_role_axiom (omega arith);
  role_names = λ a m. absurd (Memᴰ.not-nil (subst (λ (xs : List RoleAxiom). Memᴰ a xs) no_role_axiom m));
  few_concepts = rw no_concept (omega arith);
  ordered = rw no_concept (λ k d h. absurd (omega arith));
  in_range = λ c k a. let l : c < length {A = Concept} [] = subst (λ (cs : List Concept). c < length cs) no_concept a.0 in absurd (omega arith);
  opposed = λ c d h. absurd (unmated c d h);
  each_other = λ c d h. absurd (unmated c d h);
  few_axioms = rw no_axiom (omega arith);
  axioms_stand = λ c m. absurd (Memᴰ.not-nil (subst (λ (xs : List ℕ). Memᴰ c xs) no_axiom m));
}
  where
    unmated : (c d : ℕ) → AreMates t.mates c d → ⊥
    unmated c d h = let n = no_mate c in let z : ◌≡◌ {A = ℕ} 0 1 = cc in omega arith

-- a role axiom more
pub kept_role_axiom : (t : Theory) (a : RoleAxiom) → Kept t → NamesBelow 128 a → length t.role_axioms < 256 → Kept (record t { role_axioms = t.role_axioms ++ a ∷ [] })
kept_role_axiom t a k fit room = record {
  few_concepts = k.few_concepts;
  ordered = k.ordered;
  in_range = k.in_range;
  opposed = k.opposed;
  each_other = k.each_other;
  few_axioms = k.few_axioms;
  axioms_stand = k.axioms_stand;
  few_role_axioms = omega (arith, length_push t.role_axioms a);
  role_names = λ b m. ⊎_elim (k.role_names b) (λ e. subst (NamesBelow 128) (sym (Memᴰ.eq_of_singleton e)) fit) (Memᴰ.append_cases t.role_axioms m);
}

-- an axiom more
pub kept_axiom : (t : Theory) (c : ℕ) → Kept t → c < length t.concepts → length t.axioms < 256 → Kept (record t { axioms = t.axioms ++ c ∷ [] })
kept_axiom t c k l room = record {
  few_role_axioms = k.few_role_axioms;
  role_names = k.role_names;
  few_concepts = k.few_concepts;
  ordered = k.ordered;
  in_range = k.in_range;
  opposed = k.opposed;
  each_other = k.each_other;
  few_axioms = omega (arith, length_push t.axioms c);
  axioms_stand = λ x m. ⊎_elim (k.axioms_stand x) (λ e. subst (λ (y : ℕ). y < length t.concepts) (sym (Memᴰ.eq_of_singleton e)) l) (Memᴰ.append_cases t.axioms m);
}

-- a concept more
at_push : (cs : List Concept) (k : Concept) (c : ℕ) (j : Concept) → At (cs ++ k ∷ []) c j → At cs c j ⊎ (k ≡ j)
at_push cs k c j a = ⊎_elim
    (λ (l : c < length cs). inl (l, sym (get_or_append_left cs (k ∷ []) Top c l) ∙ a.1))
    (λ (l : length cs ≤ c). let e : length cs ≡ c = omega (arith, length_push cs k) in inr (sym (get_or_push cs k Top c e) ∙ a.1))
    (cases_lt c (length cs))

pub kept_concept : (t : Theory) (k : Concept) → Kept t → InRange k → all_below (parts k) (length t.concepts) ≡ true → length t.concepts < 1024
    → Kept (record t { concepts = t.concepts ++ k ∷ [] })
kept_concept t k kept range refers room = record {
  few_role_axioms = kept.few_role_axioms;
  role_names = kept.role_names;
  each_other = kept.each_other;
  few_axioms = kept.few_axioms;
  few_concepts = omega (arith, length_push t.concepts k);
  ordered = ordered_push parts t.concepts k kept.ordered refers;
  in_range = λ c j a. ⊎_elim (kept.in_range c j) (λ e. subst InRange e range) (at_push t.concepts k c j a);
  opposed = λ c d h. let o = kept.opposed c d h in
      record { this = o.this; that = o.that; this_at = at_append t.concepts (k ∷ []) c o.this o.this_at; that_at = at_append t.concepts (k ∷ []) d o.that o.that_at; negates = o.negates };
  axioms_stand = λ c m. let l = kept.axioms_stand c m in omega (arith, length_push t.concepts k);
}

-- two concepts paired
pub kept_pair : (t : Theory) (c d : ℕ) → Kept t → Pairable t c d → Kept (record t { mates = joined t.mates c d })
kept_pair t c d kept p = record {
  few_role_axioms = kept.few_role_axioms;
  role_names = kept.role_names;
  few_concepts = kept.few_concepts;
  ordered = kept.ordered;
  in_range = kept.in_range;
  few_axioms = kept.few_axioms;
  axioms_stand = kept.axioms_stand;
  opposed = opposed;
  each_other = each_other;
}
  where
    none_c : t.mates c ≡ None
    none_c = p.first_is_single

    none_d : t.mates d ≡ None
    none_d = p.second_is_single

    more : (x y : ℕ) → Opposed t.concepts t.mates x y → Opposed t.concepts (joined t.mates c d) x y
    more x y o = record { this = o.this; that = o.that; this_at = o.this_at; that_at = o.that_at; negates = still_negates t.mates c d none_c none_d o.this o.that o.negates }

    turned : (x y : ℕ) → Opposed t.concepts t.mates x y → Opposed t.concepts t.mates y x
    turned x y o = record { this = o.that; that = o.this; this_at = o.that_at; that_at = o.this_at; negates = swapped o.negates }

    opposed : (x y : ℕ) → AreMates (joined t.mates c d) x y → Opposed t.concepts (joined t.mates c d) x y
    opposed x y h = ⊎_elim
        (λ e. rw (e.0, e.1) (more c d p.opposed))
        (⊎_elim (λ e. rw (e.0, e.1) (more d c (turned c d p.opposed))) (λ e. more x y (kept.opposed x y e.2)))
        (mates_now t.mates c d x y h)

    each_other : (x y : ℕ) → AreMates (joined t.mates c d) x y → AreMates (joined t.mates c d) y x
    each_other x y h = ⊎_elim
        (λ e. rw (e.0, e.1) (mate_second t.mates c d))
        (⊎_elim (λ e. rw (e.0, e.1) (mate_first t.mates c d)) (λ e. still_mates t.mates c d none_c none_d y x (kept.each_other x y e.2)))
        (mates_now t.mates c d x y h)

-- two entries that negate each other are opposites, if mates are of which one is below n; c or d is at most n
negates_opposite : (t : Theory) (n : ℕ) → Kept t → ((a b : ℕ) → (a < n) ⊎ (b < n) → AreMates t.mates a b → Opposite t.concepts a b)
    → (c d : ℕ) (j k : Concept) → (c ≤ n) ⊎ (d ≤ n) → At t.concepts c j → At t.concepts d k → Negates t.mates j k → Opposite t.concepts c d
negates_opposite t n kept mates c d j k side p q top_bottom = opposite-top p q
negates_opposite t n kept mates c d j k side p q name_not_name = opposite-name p q
negates_opposite t n kept mates c d j k side p q (and_or {a = a} {b = b} {a' = a'} {b' = b'} x y) =
    let l = two_below a b c (parts_below t.concepts kept.ordered c (And a b) p) in
    let r = two_below a' b' d (parts_below t.concepts kept.ordered d (Or a' b') q) in
    opposite-and p q
    (mates a a' (⊎_elim (λ (s : c ≤ n). inl (omega arith)) (λ (s : d ≤ n). inr (omega arith)) side) x)
    (mates b b' (⊎_elim (λ (s : c ≤ n). inl (omega arith)) (λ (s : d ≤ n). inr (omega arith)) side) y)
negates_opposite t n kept mates c d j k side p q (only_exists {r = s} {a = a} {a' = a'} x) =
    let l = one_below a c (parts_below t.concepts kept.ordered c (Only s a) p) in
    let r = one_below a' d (parts_below t.concepts kept.ordered d (Exists s a') q) in
    opposite-only p q (mates a a' (⊎_elim (λ (s : c ≤ n). inl (omega arith)) (λ (s : d ≤ n). inr (omega arith)) side) x)
negates_opposite t n kept mates c d j k side p q (swapped g) =
    opposite-swapped (negates_opposite t n kept mates d c k j (⊎_elim inr inl side) q p g)

opposite_upto : (t : Theory) → Kept t → (n : ℕ) (a b : ℕ) → (a < n) ⊎ (b < n) → AreMates t.mates a b → Opposite t.concepts a b
opposite_upto t kept zero a b side h = absurd (⊎_elim (λ (l : a < 0). omega arith) (λ (l : b < 0). omega arith) side)
opposite_upto t kept (suc n) a b side h =
    let o = kept.opposed a b h in
    negates_opposite t n kept (opposite_upto t kept n) a b o.this o.that
    (⊎_elim (λ (l : a < suc n). inl (omega arith)) (λ (l : b < suc n). inr (omega arith)) side) o.this_at o.that_at o.negates

-- mates are opposites
pub mates_opposite : (t : Theory) → Kept t → (c d : ℕ) → AreMates t.mates c d → Opposite t.concepts c d
mates_opposite t kept c d h = opposite_upto t kept (suc c) c d (inl (omega arith)) h
