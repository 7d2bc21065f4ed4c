-- The edges of a role name as a part of the list.
use Rattle.std.proofs.Common.{◌≡◌, ℕ, refl, ◌+◌, ◌-◌, ◌<◌, ◌≤◌, Bool, true, false, T, ◌&&◌, eqb, ltb, ◌↔◌, List, [], length, get_or, set, replicate, take, drop, sym, ap, ◌∙◌, subst, inl, inr, ⊎_elim, arith, eqb→eq, length-drop, get_or-take, get_or-drop}
use Rattle.std.proofs.lemmas.Bool.{cases_eq, cases_lt, lt-ltb, le-ltb}
use Rattle.std.proofs.lemmas.List.{length-take, length-set, get_or-replicate, get_or-set_other}
use Rattle.std.proofs.lemmas.Grind.{get_or-set_at}
use Rattle.std.specs.List.Sorted.{IsNonDecreasingBy}
use Rattle.std.proofs.lemmas.List.Sorted.{IsNonDecreasingBy-from_all_adjacent}
use Rattle.models.specs.declared.Model.{Model}
use Rattle.models.specs.declared.items.Edge.{Edge}
use Rattle.models.specs.declared.edge_parts.Part.{Part}
use Rattle.models.specs.Items.{edges_in, edge_role, edge_at, source, target, AreEdges, TripleBefore}
use Rattle.models.specs.Models.{WellFormed}
use Rattle.models.specs.EdgeParts.{IsPart, PartsOf, with_part, no_part, IsEdge, AreEdgesOf}
use Rattle.bits.specs.Below.{some_below}
use Rattle.bits.proofs.Tests.{and_out, and_in, eq_T}
use Rattle.bits.proofs.SomeBelow.{some_there, there_some}
use Rattle.models.proofs.PairFacts.{source_small, target_small}

pub same_truth : (a b : Bool) → (T a → T b) → (T b → T a) → a ≡ b
same_truth true true f g = refl
same_truth true false f g = absurd (f tt)
same_truth false true f g = absurd (g tt)
same_truth false false f g = refl

not_after : (r x y r' x' y' : ℕ) → TripleBefore r x y r' x' y' → r ≤ r'
not_after r x y r' x' y' (inl l) = omega arith
not_after r x y r' x' y' (inr p) = let e = p.0 in omega arith

-- role names rise
pub roles_rise : (m : Model) (chunks : List (List ℕ)) → WellFormed m → AreEdges m.edges.now chunks → IsNonDecreasingBy (λ b. edge_role b 0) chunks
roles_rise m chunks formed are = IsNonDecreasingBy-from_all_adjacent (λ b. edge_role b 0) chunks (λ k d l.
    let es = m.edges.now in
    let many = are.many in
    let rises = not_after _ _ _ _ _ _ ((formed.good_edges (k + 1) (omega arith)).edge_rises (omega arith)) in
    let before : k + 1 - 1 ≡ k = omega arith in
    let here = ap (λ e. e.role_name) (are.reads k d (omega arith)) in
    let next = ap (λ e. e.role_name) (are.reads (k + 1) d (omega arith)) in
    omega (arith, rises, ap (edge_role es) before, here, next))

-- and so they do by place
pub roles_rise_by_place : (m : Model) (chunks : List (List ℕ)) → WellFormed m → AreEdges m.edges.now chunks
    → (j k : ℕ) → j ≤ k → k < edges_in m.edges.now → edge_role m.edges.now j ≤ edge_role m.edges.now k
roles_rise_by_place m chunks formed are j k h l =
    let many = are.many in
    let rise = roles_rise m chunks formed are j k [] h (omega arith) in
    omega (arith, rise, ap (λ e. e.role_name) (are.reads j [] (omega arith)), ap (λ e. e.role_name) (are.reads k [] l))

module _ (es : List ℕ) where
  -- an edge of another role name leaves a part as it is
  part_stays : (n r : ℕ) (part : Part) → IsPart es n r part → (edge_role es n ≡ r → ⊥) → IsPart es (n + 1) r part
  part_stays n r part p other =
      let within = p.within in record {
        in_order = p.in_order;
        within = omega arith;
        each = p.each;
        all_after = λ k l e. p.all_after k (before k l e) e;
        all_before = λ k l e. p.all_before k (before k l e) e;
      }
    where
      before : (k : ℕ) → k < n + 1 → edge_role es k ≡ r → k < n
      before k l e = ⊎_elim (λ (q : k ≡ n). absurd (other (subst (λ i. edge_role es i ≡ r) q e))) (λ (d : k ≡ n → ⊥). omega arith) (cases_eq k n)

  -- The first n edges are walked: those from `start` on have the name that is walked, and no earlier ones have; the other
  -- names have their parts of them.
  pub record Walked (n name start : ℕ) (parts : List Part) : Type 0 where
    pub size : length parts ≡ 64
    pub within : start ≤ n
    pub begun : 0 < n → start < n
    pub not_begun : n ≡ 0 → name ≡ 64
    pub here : (k : ℕ) → start ≤ k → k < n → edge_role es k ≡ name
    pub none_before : (k : ℕ) → k < start → edge_role es k ≡ name → ⊥
    pub others : (r : ℕ) → r < 64 → (r ≡ name → ⊥) → IsPart es n r (get_or parts r no_part)

  pub walk_begins : Walked 0 64 0 (replicate 64 no_part)
  walk_begins = record {
    size = refl;
    within = omega arith;
    begun = λ l. absurd (omega arith);
    not_begun = λ e. refl;
    here = λ k a b. absurd (omega arith);
    none_before = λ k a e. absurd (omega arith);
    others = λ r h d. subst (IsPart es 0 r) (sym (get_or-replicate 64 r no_part no_part h)) (record {
      in_order = omega arith;
      within = omega arith;
      each = λ k a b. absurd (omega arith);
      all_after = λ k l. absurd (omega arith);
      all_before = λ k l. absurd (omega arith);
    });
  }

  module _ (n name start : ℕ) (parts : List Part) (w : Walked n name start parts) where
    -- the part of the name that is walked
    abbrev walked : Part
    walked = record { start = start; end = n }

    is_walked : IsPart es n name walked
    is_walked = record {
      in_order = w.within;
      within = omega arith;
      each = w.here;
      all_after = λ k l e. ⊎_elim (λ (h : k < start). absurd (w.none_before k h e)) (λ (h : start ≤ k). h) (cases_lt k start);
      all_before = λ k l e. l;
    }

    -- with it all names have their parts
    pub all_parts : PartsOf es n (with_part parts name walked)
    all_parts r h = ⊎_elim
        (λ (q : r ≡ name).
        let small : ltb name 64 ≡ true = lt-ltb name 64 (omega arith) in
        rw small (subst (IsPart es n r) (sym (get_or-set_at parts name r walked no_part q (let s = w.size in omega arith)))
        (subst (λ a. IsPart es n a walked) (sym q) is_walked)))
        (λ (d : r ≡ name → ⊥). ⊎_elim
        (λ (l : name < 64). rw (lt-ltb name 64 l) (subst (IsPart es n r) (sym (get_or-set_other parts name r walked no_part d)) (w.others r h d)))
        (λ (l : 64 ≤ name). rw (le-ltb name 64 l) (w.others r h d))
        (cases_lt name 64))
        (cases_eq r name)

    -- an edge more of the name that is walked
    pub walk_on : edge_role es n ≡ name → name < 64 → Walked (n + 1) name start parts
    walk_on e small = let within = w.within in record {
      size = w.size;
      within = omega arith;
      begun = λ l. omega arith;
      not_begun = λ z. absurd (omega arith);
      here = λ k a b. ⊎_elim (λ (l : k < n). w.here k a l) (λ (l : n ≤ k). let q : n ≡ k = omega arith in subst (λ i. edge_role es i ≡ name) q e) (cases_lt k n);
      none_before = w.none_before;
      others = λ r h d. part_stays n r (get_or parts r no_part) (w.others r h d) (λ q. d (sym q ∙ e));
    }

    -- and one of another, which is behind all that were walked
    pub walk_over : ((j k : ℕ) → j ≤ k → k < edges_in es → edge_role es j ≤ edge_role es k) → (next : ℕ) → n < edges_in es → edge_role es n ≡ next → (next ≡ name → ⊥)
        → Walked (n + 1) next n (with_part parts name walked)
    walk_over rise next l e other = record {
      size = ⊎_elim
          (λ (s : name < 64). rw (lt-ltb name 64 s) (length-set parts name walked ∙ w.size))
          (λ (s : 64 ≤ name). rw (le-ltb name 64 s) w.size)
          (cases_lt name 64);
      within = omega arith;
      begun = λ h. omega arith;
      not_begun = λ z. absurd (omega arith);
      here = λ k a b. let q : n ≡ k = omega arith in subst (λ i. edge_role es i ≡ next) q e;
      none_before = λ k h q.
          let last = w.here (n - 1) (let b = w.begun (omega arith) in omega arith) (omega arith) in
          let low = rise k (n - 1) (omega arith) (omega arith) in
          let high = rise (n - 1) n (omega arith) l in
          other (omega arith);
      others = λ r h d. part_stays n r _ (all_parts r h) (λ q. d (sym q ∙ e));
    }

-- the chunks at the places of a part
module _ (es : List ℕ) (name : ℕ) (part : Part) (is : IsPart es (edges_in es) name part) where
  pub part_of : (chunks : List (List ℕ)) → AreEdges es chunks → AreEdgesOf es name (take (part.end - part.start) (drop part.start chunks))
  part_of chunks are =
      let long = length-take (part.end - part.start) (drop part.start chunks) in
      let rest = length-drop part.start chunks in
      let many = are.many in
      let within = is.within in
      let order = is.in_order in
      let is_edge : (k : ℕ) → k < part.end - part.start → IsEdge es (take (part.end - part.start) (drop part.start chunks)) k (part.start + k) = λ k l. record {
        is_chunk = omega arith;
        is_listed = omega arith;
        same = λ d. ap (λ b. edge_at b 0) (get_or-take (part.end - part.start) (drop part.start chunks) k d l ∙ get_or-drop part.start chunks k d) ∙ are.reads (part.start + k) d (omega arith);
      } in record {
        each = λ k l. (part.start + k, is.each (part.start + k) (omega arith) (omega arith), is_edge k (omega arith));
        all = λ i l e.
            let after = is.all_after i l e in
            let before = is.all_before i l e in
            let at : part.start + (i - part.start) ≡ i = omega arith in
            (i - part.start, subst (λ j. IsEdge es (take (part.end - part.start) (drop part.start chunks)) (i - part.start) j) at (is_edge (i - part.start) (omega arith)));
      }

-- chunk k as an edge
abbrev pub chunk_edge : List (List ℕ) → ℕ → Edge
chunk_edge chunks k = edge_at (get_or chunks k []) 0

-- What is asked of the edges of a role name is asked of the chunks.
module _ (es : List ℕ) (name : ℕ) (chunks : List (List ℕ)) (are : AreEdgesOf es name chunks) where
  pub all_of : (P : Edge → Type 0) (Q : Type 0) → ((i : ℕ) → i < edges_in es → edge_role es i ≡ name → P (edge_at es i)) ↔ Q → ((k : ℕ) → k < length chunks → P (chunk_edge chunks k)) ↔ Q
  all_of P Q q = (
    (λ f. q.0 (λ i l e. let (k, is) = are.all i l e in subst P (is.same []) (f k is.is_chunk))),
    λ t k l. let (i, e, is) = are.each k l in subst P (sym (is.same [])) (q.1 t i is.is_listed e),
  )

  pub some_of : (f : Edge → Bool) → some_below (length chunks) (λ k. f (chunk_edge chunks k)) ≡ some_below (edges_in es) (λ i. eqb (edge_role es i) name && f (edge_at es i))
  some_of f = same_truth _ _
      (λ t.
      let (k, l, u) = some_there (length chunks) _ t in
      let (i, e, is) = are.each k l in
      there_some (edges_in es) _ i is.is_listed (and_in _ _ (eq_T _ _ e) (subst (λ x. T (f x)) (is.same []) u)))
      (λ t.
      let (i, l, u) = some_there (edges_in es) _ t in
      let p = and_out _ _ u in
      let (k, is) = are.all i l (eqb→eq _ _ p.0) in
      there_some (length chunks) _ k is.is_chunk (subst (λ x. T (f x)) (sym (is.same [])) p.1))

-- both ends of a chunk's edge are small
module _ (m : Model) (formed : WellFormed m) (name : ℕ) (chunks : List (List ℕ)) (are : AreEdgesOf m.edges.now name chunks) where
  pub chunk_source_small : (r k : ℕ) → k < length chunks → source r (chunk_edge chunks k) < 256
  chunk_source_small r k l = let (i, e, is) = are.each k l in subst (λ x. source r x < 256) (sym (is.same [])) (source_small m formed r i is.is_listed)

  pub chunk_target_small : (r k : ℕ) → k < length chunks → target r (chunk_edge chunks k) < 256
  chunk_target_small r k l = let (i, e, is) = are.each k l in subst (λ x. target r x < 256) (sym (is.same [])) (target_small m formed r i is.is_listed)
