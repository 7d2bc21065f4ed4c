-- The order of edges, and a search by it.
use Rattle.std.proofs.Common.{◌≡◌, ℕ, ◌+◌, ◌-◌, ◌<◌, ◌≤◌, true, false, T, List, [], length, get_or, Less, Equal, Greater, Ordering, Ok, Err, Result, is_ok, ap, ◌∙◌, ap₂, subst, ⊎_elim, arith}
use Rattle.std.proofs.lemmas.Bool.{cases_lt, both_ways}
use Rattle.std.proofs.lemmas.Grind.{common_steps}
use Rattle.std.proofs.lemmas.Cmp.{nat_cmp_total, on_total, then_total, tied_itself}
use Rattle.std.proofs.lemmas.List.Sorted.{searchable_from_sorted}
use Rattle.std.specs.Cmp.{IsTotalOrder}
use Rattle.std.specs.Ordering.{nat_cmp, ordering_then, ordering_index, is_lt, is_gt}
use Rattle.std.specs.List.Sorted.{IsNonDecreasingBy, IsBinarySearchResult, IsSearchInRange}
use Rattle.models.specs.declared.Model.{Model}
use Rattle.models.specs.declared.items.Edge.{Edge}
use Rattle.models.specs.Items.{edges_in, edge_at, AreEdges, EdgeBefore, joined}
use Rattle.models.specs.Models.{WellFormed}
use Rattle.models.proofs.PartFacts.{same_truth}
use Rattle.models.proofs.EdgeFacts.{joined_out, joined_in}

abbrev Joined : List ℕ → Edge → Type 0
Joined es e = T (joined es e.role_name e.from e.to)

-- the order that is derived for edges
abbrev pub edge_cmp : Edge → Edge → Ordering
edge_cmp e f = ordering_then (nat_cmp e.role_name f.role_name) (ordering_then (nat_cmp e.from f.from) (nat_cmp e.to f.to))

edge_order : IsTotalOrder edge_cmp
edge_order = then_total (on_total (λ e. e.role_name) nat_cmp_total) (then_total (on_total (λ e. e.from) nat_cmp_total) (on_total (λ e. e.to) nat_cmp_total))

before_less : (e f : Edge) → EdgeBefore e f → is_lt (edge_cmp e f) ≡ true
before_less e f h = grind (arith, common_steps)

before_above : (e f : Edge) → EdgeBefore e f → is_lt (edge_cmp f e) ≡ false
before_above e f h = grind (arith, common_steps)

equal_same : (e f : Edge) → edge_cmp e f ≡ Equal → e ≡ f
equal_same e f h = grind (arith, common_steps)

module _ (m : Model) (formed : WellFormed m) (chunks : List (List ℕ)) (are : AreEdges m.edges.now chunks) where
  abbrev es : List ℕ
  es = m.edges.now

  abbrev key : List ℕ → Edge
  key c = edge_at c 0

  -- what the chunk at i says of a key is said of edge i, and back
  there : (P : Edge → Type 0) (i : ℕ) → i < edges_in es → P (key (get_or chunks i [])) → P (edge_at es i)
  there P i h = subst P (are.reads i [] h)

  searchable : (w : Edge) → IsNonDecreasingBy (λ c. ordering_index (edge_cmp (key c) w)) chunks
  searchable w = searchable_from_sorted edge_order key chunks w (λ k d l h.
      let first : k < edges_in es = omega (arith, are.many) in
      let last : k + 1 < edges_in es = omega (arith, are.many) in
      let e : k + 1 - 1 ≡ k = omega arith in
      ap₂ (λ f e. is_lt (edge_cmp f e)) (are.reads (k + 1) d last) (are.reads k d first)
      ∙ before_above (edge_at es k) (edge_at es (k + 1)) (subst (λ i. EdgeBefore (edge_at es i) (edge_at es (k + 1))) e ((formed.good_edges (k + 1) last).edge_rises (omega arith))))

  -- the search finds exactly a listed edge
  pub found : (w : Edge) (r : Result ℕ ℕ) → IsSearchInRange r (length chunks) → IsBinarySearchResult (λ c. edge_cmp (key c) w) chunks r → is_ok r ≡ joined es w.role_name w.from w.to
  found w (Ok i) l s =
      let h : i < edges_in es = omega (arith, l, are.many) in
      same_truth true _ (λ _. subst (Joined es) (equal_same (edge_at es i) w (there (λ e. edge_cmp e w ≡ Equal) i h (s []))) (joined_in es i h)) (λ _. tt)
  found w (Err i) l s = same_truth false _ (λ z. absurd z) (λ t.
      let (j, k, e) = joined_out es _ _ _ t in
      let p = s (searchable w) in
      let equal = tied_itself edge_order w in
      ⊎_elim
      (λ (h : j < i). both_ways (is_lt (edge_cmp w w)) (ap (λ o. is_lt o) equal) (ap (λ o. is_lt o) (subst (λ f. edge_cmp f w ≡ Less) e (there (λ f. edge_cmp f w ≡ Less) j k (p.0 j [] (omega arith) h)))))
      (λ (h : i ≤ j). both_ways (is_gt (edge_cmp w w)) (ap (λ o. is_gt o) equal) (ap (λ o. is_gt o) (subst (λ f. edge_cmp f w ≡ Greater) e (there (λ f. edge_cmp f w ≡ Greater) j k (p.1 j [] h (omega (arith, are.many)))))))
      (cases_lt j i))
