-- The test for pairing is right, and mates stay mates as two more are paired.
use Rattle.std.proofs.Common.{◌≡◌, ℕ, Bool, true, false, ◌&&◌, ◌||◌, eqb, ltb, length, get_or, Some, None, Option, sym, refl, ap, ◌∙◌, subst, ⊎_elim, arith}
use Rattle.std.proofs.lemmas.Bool.{and_parts, and_from, eqb-true, eq-eqb, ltb-true, lt-ltb, or_cases, or_left}
use Rattle.std.specs.Prelude.{is_none}
use Rattle.logic.specs.declared.concept.Concept.{Concept}
use Rattle.logic.specs.declared.concept.Concept.TheVariants.{Top, Bottom, Name, NotName, And, Or, Only, Exists}
use Rattle.logic.specs.Concepts.{At}
use Rattle.logic.specs.Theories.{Theory, concept_at, found, are_mates}
use Rattle.logic.specs.Pairing.{Negates, top_bottom, name_not_name, and_or, only_exists, swapped, Pairable, negates, both_negate, pairable, PairableIsDecided}

pub never : {P : Type 0} → false ≡ true → P
never h = let z : ◌≡◌ {A = ℕ} 0 1 = cc in absurd (omega arith)

or_swap : (a b : Bool) → (a || b) ≡ true → (b || a) ≡ true
or_swap a true h = refl
or_swap true false h = refl
or_swap false false h = h

pub found_some : (o : Option ℕ) (d : ℕ) → found o d ≡ true → o ≡ Some d
found_some None d h = never h
found_some (Some m) d h = ap (λ x. Some x) (eqb-true m d h)

pub some_found : (o : Option ℕ) (d : ℕ) → o ≡ Some d → found o d ≡ true
some_found o d h = ap (λ x. found x d) h ∙ eq-eqb d d refl

-- from the test to the relation
test_negates : (m : ℕ → Option ℕ) (j k : Concept) → negates m j k ≡ true → Negates m j k
test_negates m Top Top h = never h
test_negates m Top Bottom h = top_bottom
test_negates m Top (Name b) h = never h
test_negates m Top (NotName b) h = never h
test_negates m Top (And c d) h = never h
test_negates m Top (Or c d) h = never h
test_negates m Top (Only s d) h = never h
test_negates m Top (Exists s d) h = never h
test_negates m Bottom k h = never h
test_negates m (Name a) Top h = never h
test_negates m (Name a) Bottom h = never h
test_negates m (Name a) (Name b) h = never h
test_negates m (Name a) (NotName b) h = subst (λ (x : ℕ). Negates m (Name a) (NotName x)) (eqb-true a b h) name_not_name
test_negates m (Name a) (And c d) h = never h
test_negates m (Name a) (Or c d) h = never h
test_negates m (Name a) (Only s d) h = never h
test_negates m (Name a) (Exists s d) h = never h
test_negates m (NotName a) k h = never h
test_negates m (And a b) Top h = never h
test_negates m (And a b) Bottom h = never h
test_negates m (And a b) (Name x) h = never h
test_negates m (And a b) (NotName x) h = never h
test_negates m (And a b) (And c d) h = never h
test_negates m (And a b) (Or c d) h =
    let p = and_parts (are_mates m a c) (are_mates m b d) h in
    and_or (found_some (m a) c p.0) (found_some (m b) d p.1)
test_negates m (And a b) (Only s d) h = never h
test_negates m (And a b) (Exists s d) h = never h
test_negates m (Or a b) k h = never h
test_negates m (Only r a) Top h = never h
test_negates m (Only r a) Bottom h = never h
test_negates m (Only r a) (Name x) h = never h
test_negates m (Only r a) (NotName x) h = never h
test_negates m (Only r a) (And c d) h = never h
test_negates m (Only r a) (Or c d) h = never h
test_negates m (Only r a) (Only s d) h = never h
test_negates m (Only r a) (Exists s d) h =
    let p = and_parts (eqb r s) (are_mates m a d) h in
    subst (λ (x : ℕ). Negates m (Only r a) (Exists x d)) (eqb-true r s p.0) (only_exists (found_some (m a) d p.1))
test_negates m (Exists r a) k h = never h

-- and back
negates_test : (m : ℕ → Option ℕ) (j k : Concept) → Negates m j k → (negates m j k || negates m k j) ≡ true
negates_test m j k top_bottom = refl
negates_test m j k (name_not_name {a = a}) = or_left (eqb a a) _ (eq-eqb a a refl)
negates_test m j k (and_or {a = a} {b = b} {a' = c} {b' = d} p q) =
    or_left (are_mates m a c && are_mates m b d) _ (and_from (are_mates m a c) (are_mates m b d) (some_found (m a) c p) (some_found (m b) d q))
negates_test m j k (only_exists {r = r} {a = a} {a' = d} p) =
    or_left (eqb r r && are_mates m a d) _ (and_from (eqb r r) (are_mates m a d) (eq-eqb r r refl) (some_found (m a) d p))
negates_test m j k (swapped n) = or_swap (negates m k j) (negates m j k) (negates_test m k j n)

is_none_none : (o : Option ℕ) → is_none o ≡ true → o ≡ None
is_none_none None h = refl
is_none_none (Some d) h = never h

pub found_at : (t : Theory) (c : ℕ) (k : Concept) → concept_at t c ≡ Some k → At t.concepts c k
found_at t c k h = go (ltb c (length t.concepts)) refl
  where
    go : (b : Bool) → b ≡ ltb c (length t.concepts) → At t.concepts c k
    go true e =
        let l = ltb-true c (length t.concepts) (sym e) in
        (l, let s = lt-ltb c (length t.concepts) l in let q : Some (get_or t.concepts c Top) ≡ Some k = rw s at h in cc)
    go false e = let q : None ≡ Some k = rw (← e) at h in let z : ◌≡◌ {A = ℕ} 0 1 = cc in absurd (omega arith)

pub at_found : (t : Theory) (c : ℕ) (k : Concept) → At t.concepts c k → concept_at t c ≡ Some k
at_found t c k a = rw (lt-ltb c (length t.concepts) a.0) (ap (λ x. Some x) a.1)

pub pairable_is_decided : PairableIsDecided
pairable_is_decided t c d = (forth, back)
  where
    both : (x y : Option Concept) → both_negate t.mates x y ≡ true → (j : Concept) × (k : Concept) × (x ≡ Some j) × (y ≡ Some k) × Negates t.mates j k
    both None y h = never h
    both (Some j) None h = never h
    both (Some j) (Some k) h =
        (j, k, refl, refl, ⊎_elim (test_negates t.mates j k) (λ g. swapped (test_negates t.mates k j g)) (or_cases (negates t.mates j k) (negates t.mates k j) h))

    forth : pairable t c d ≡ true → Pairable t c d
    forth h =
        let p = and_parts (is_none (t.mates c)) (is_none (t.mates d) && both_negate t.mates (concept_at t c) (concept_at t d)) h in
        let q = and_parts (is_none (t.mates d)) (both_negate t.mates (concept_at t c) (concept_at t d)) p.1 in
        let b = both (concept_at t c) (concept_at t d) q.1 in
        record {
          first_is_single = is_none_none (t.mates c) p.0;
          second_is_single = is_none_none (t.mates d) q.0;
          opposed = record { this = b.0; that = b.1; this_at = found_at t c b.0 b.2; that_at = found_at t d b.1 b.3; negates = b.4 };
        }

    back : Pairable t c d → pairable t c d ≡ true
    back p = and_from (is_none (t.mates c)) _ (ap is_none p.first_is_single) (and_from (is_none (t.mates d)) _ (ap is_none p.second_is_single)
        (rw (at_found t c p.opposed.this p.opposed.this_at, at_found t d p.opposed.that p.opposed.that_at)
        (negates_test t.mates p.opposed.this p.opposed.that p.opposed.negates)))
