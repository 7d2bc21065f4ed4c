-- A role axiom is met exactly if every edge has what it asks.
use Rattle.std.proofs.Common.{◌≡◌, ℕ, ◌/◌, ◌%◌, ◌<◌, Bool, true, false, cond, T, eqb, ◌↔◌, List, sym, ap, subst, arith}
use Rattle.std.proofs.lemmas.Bool.{cond_both, false_from_ne_true}
use Rattle.logic.specs.declared.role.RoleAxiom.{RoleAxiom}
use Rattle.logic.specs.declared.role.RoleAxiom.TheVariants.{Inclusion, Transitivity}
use Rattle.logic.specs.Interpretations.{Element, leads, Leads, Includes, IsTransitive, MeetsRoleAxiom}
use Rattle.models.specs.declared.Model.{Model}
use Rattle.models.specs.declared.items.Edge.{Edge}
use Rattle.models.specs.Items.{edges_in, edge_role, edge_from, edge_to, edge_source, edge_target, edge_at, source, target, joined}
use Rattle.models.specs.Models.{WellFormed, described}
use Rattle.models.specs.Pairs.{PairIncluded, PairContinued, Shortcut}
use Rattle.models.proofs.EdgeFacts.{joined_out, joined_in}

-- edge i is a pair of role r that leads from x to y
pub record IsPair (es : List ℕ) (i r x y : ℕ) : Type 0 where
  pub listed : i < edges_in es
  pub role_is : edge_role es i ≡ r / 2
  pub source_is : edge_source es r i ≡ x
  pub target_is : edge_target es r i ≡ y

-- the elements of a model are the numbers below its size
pub element : (m : Model) (x : ℕ) → x < m.size → Element (described m) x
element m x h = omega arith

pub in_range : (m : Model) (x : ℕ) → WellFormed m → Element (described m) x → x < m.size
in_range m x formed h = let s = formed.sized.inhabited in omega arith

module _ (m : Model) where
  abbrev es : List ℕ
  es = m.edges.now

  pub leads_out : (r x y : ℕ) → Leads (described m) r x y → (i : ℕ) × IsPair es i r x y
  leads_out r x y t = let (i, l, e, s, g) = go (eqb (r % 2) 0) t in (i, record { listed = l; role_is = e; source_is = s; target_is = g })
    where
      go : (b : Bool) → T (cond b (joined es (r / 2) x y) (joined es (r / 2) y x)) →
          (i : ℕ) × (i < edges_in es) × (edge_role es i ≡ r / 2) × (cond b (edge_from es i) (edge_to es i) ≡ x) × (cond b (edge_to es i) (edge_from es i) ≡ y)
      go true u = let (i, l, e) = joined_out es (r / 2) x y u in (i, l, ap (λ f. f.role_name) e, ap (λ f. f.from) e, ap (λ f. f.to) e)
      go false u = let (i, l, e) = joined_out es (r / 2) y x u in (i, l, ap (λ f. f.role_name) e, ap (λ f. f.to) e, ap (λ f. f.from) e)

  pub leads_in : (r i : ℕ) → i < edges_in es → edge_role es i ≡ r / 2 → Leads (described m) r (edge_source es r i) (edge_target es r i)
  leads_in r i k e = go (eqb (r % 2) 0)
    where
      here : T (joined es (r / 2) (edge_from es i) (edge_to es i))
      here = subst (λ a. T (joined es a (edge_from es i) (edge_to es i))) e (joined_in es i k)

      go : (b : Bool) → T (cond b
          (joined es (r / 2) (cond b (edge_from es i) (edge_to es i)) (cond b (edge_to es i) (edge_from es i)))
          (joined es (r / 2) (cond b (edge_to es i) (edge_from es i)) (cond b (edge_from es i) (edge_to es i))))
      go true = here
      go false = here

  module _ (formed : WellFormed m) where
    -- both ends of an edge are elements
    pub source_in_range : (r i : ℕ) → i < edges_in es → edge_source es r i < m.size
    source_in_range r i k = let g = formed.good_edges i k in cond_both _ _ _ (λ x. x < m.size) (λ _. g.from_in_range) (λ _. g.to_in_range)

    pub target_in_range : (r i : ℕ) → i < edges_in es → edge_target es r i < m.size
    target_in_range r i k = let g = formed.good_edges i k in cond_both _ _ _ (λ x. x < m.size) (λ _. g.to_in_range) (λ _. g.from_in_range)

    pub source_small : (r i : ℕ) → i < edges_in es → edge_source es r i < 256
    source_small r i k = let f = formed.sized.few_elements in let h = source_in_range r i k in omega arith

    pub target_small : (r i : ℕ) → i < edges_in es → edge_target es r i < 256
    target_small r i k = let f = formed.sized.few_elements in let h = target_in_range r i k in omega arith

    pub pairs_included : (r s : ℕ) → ((k : ℕ) → k < edges_in es → edge_role es k ≡ r / 2 → PairIncluded m r s (edge_at es k)) ↔ Includes (described m) r s
    pairs_included r s = (
      (λ f x y hx hy t.
          let (i, p) = leads_out r x y t in
          subst (λ b. Leads (described m) s x b) p.target_is (subst (λ a. Leads (described m) s a (edge_target es r i)) p.source_is (f i p.listed p.role_is))),
      λ f i k e. f _ _ (element m _ (source_in_range r i k)) (element m _ (target_in_range r i k)) (leads_in r i k e),
    )

    -- a pair is one of elements
    pub leads_small : (r x y : ℕ) → Leads (described m) r x y → (x < 256) × (y < 256)
    leads_small r x y t = let (i, p) = leads_out r x y t in (subst (λ a. a < 256) p.source_is (source_small r i p.listed), subst (λ b. b < 256) p.target_is (target_small r i p.listed))

    pub leads_none : (r x y : ℕ) → ((x < 256) × (y < 256) → ⊥) → leads (described m) r x y ≡ false
    leads_none r x y n = false_from_ne_true (leads (described m) r x y) (λ e. n (leads_small r x y (subst T (sym e) tt)))

    pub pairs_continued : (r : ℕ) → ((k : ℕ) → k < edges_in es → edge_role es k ≡ r / 2 → PairContinued m r r (edge_at es k)) ↔ IsTransitive (described m) r
    pairs_continued r = (
      (λ f x y z hx hy hz t u.
          let (i, p) = leads_out r x y t in
          subst (λ a. Leads (described m) r a z) p.source_is (f i p.listed p.role_is z (leads_small r y z u).1 (subst (λ b. Leads (described m) r b z) (sym p.target_is) u))),
      λ f i k e z h u.
          let (j, q) = leads_out r _ z u in
          f _ _ z (element m _ (source_in_range r i k)) (element m _ (target_in_range r i k)) (subst (λ b. Element (described m) b) q.target_is (element m _ (target_in_range r j q.listed))) (leads_in r i k e) u,
    )

    -- an edge goes on in one step exactly if it has its shortcut with each edge of the role's name
    pub shortcuts : (r : ℕ) (e : Edge) → ((k : ℕ) → k < edges_in es → edge_role es k ≡ r / 2 → Shortcut m r e (edge_at es k)) ↔ PairContinued m r r e
    shortcuts r e = (
      (λ f z h t.
          let (i, p) = leads_out r (target r e) z t in
          subst (λ b. Leads (described m) r (source r e) b) p.target_is (f i p.listed p.role_is p.source_is)),
      λ g k l q s. g (edge_target es r k) (target_small r k l) (subst (λ a. Leads (described m) r a (edge_target es r k)) s (leads_in r k l q)),
    )

    -- without edges every role axiom is met
    pub none_broken : edges_in es ≡ 0 → (a : RoleAxiom) → MeetsRoleAxiom (described m) a
    none_broken e (Inclusion r s) = (pairs_included r s).0 (λ k l. absurd (omega arith))
    none_broken e (Transitivity r) = (pairs_continued r).0 (λ k l. absurd (omega arith))
