-- A concept's row, computed from the rows of its parts, says what the concept means.
use Rattle.std.proofs.Common.{◌≡◌, ℕ, ◌+◌, ◌/◌, ◌<◌, Bool, true, not, T, ltb, ◌↔◌, List, length, get_or, sym, refl, subst, inl, inr, ⊎_elim, arith, eqb→eq, ltb→lt, lt→ltb, T_not}
use lib.Dec.{not_T}
use Rattle.std.proofs.lemmas.Bool.{cases_eq}
use Rattle.std.proofs.lemmas.Grind.{common_steps}
use Rattle.register.specs.References.{all_below, Ordered}
use Rattle.rows.specs.Rows.{contains, turned, RowBecomes}
use Rattle.rows.proofs.RowFacts.{other_row}
use Rattle.logic.specs.declared.concept.Concept.{Concept}
use Rattle.logic.specs.declared.concept.Concept.TheVariants.{Top, Bottom, Name, NotName, And, Or, Only, Exists}
use Rattle.logic.specs.Interpretations.{Interpretation, Element, Leads}
use Rattle.logic.specs.Concepts.{parts}
use Rattle.logic.specs.Meaning.{LiesIn, Means}
use Rattle.logic.proofs.Meanings.{out, means_at, one_below, two_below}
use Rattle.models.specs.declared.Model.{Model}
use Rattle.models.specs.Items.{edges_in, edge_role, edge_source, edge_target, marks_in, marked}
use Rattle.models.specs.Models.{WellFormed, described}
use Rattle.models.specs.Evaluation.{reaches, computed, RowsHold}
use Rattle.bits.proofs.Tests.{and_out, and_in, eq_T}
use Rattle.logic.proofs.Complements.{either_way}
use Rattle.bits.proofs.SomeBelow.{some_there, there_some}
use Rattle.models.proofs.PairFacts.{element, in_range, leads_out, leads_in, source_in_range, target_in_range}

-- the meaning of a concept depends on the meaning of its parts alone
means_map : (I : Interpretation) (H K : ℕ → ℕ → Type 0) (c : ℕ) → ((a e : ℕ) → a < c → Element I e → H a e → K a e) →
    (k : Concept) → all_below (parts k) c ≡ true → (e : ℕ) → Element I e → Means I H k e → Means I K k e
means_map I H K c f Top p e l h = h
means_map I H K c f Bottom p e l h = h
means_map I H K c f (Name a) p e l h = h
means_map I H K c f (NotName a) p e l h = h
means_map I H K c f (And a b) p e l h = let q = two_below a b c p in (f a e q.0 l h.0, f b e q.1 l h.1)
means_map I H K c f (Or a b) p e l h = let q = two_below a b c p in ⊎_elim (λ x. inl (f a e q.0 l x)) (λ x. inr (f b e q.1 l x)) h
means_map I H K c f (Only r b) p e l h = λ y ly g. f b y (one_below b c p) ly (h y ly g)
means_map I H K c f (Exists r b) p e l h = (h.0, h.1, h.2, f b h.0 (one_below b c p) h.1 h.3)

-- a set within t, and its complement in t
turned_out : (t b : Bool) → (T b → T t) → T (turned t b) → T t × T (not b)
turned_out t b f h = grind (arith, common_steps)

turned_in : (t b : Bool) → T t → T (not b) → T (turned t b)
turned_in t b h k = grind (arith, common_steps)

-- edge i is a pair of role r that leads from e to what g passes
record Reached (es : List ℕ) (r : ℕ) (g : ℕ → Bool) (e i : ℕ) : Type 0 where
  listed : i < edges_in es
  role_is : edge_role es i ≡ r / 2
  passed : T (g (edge_target es r i))
  source_is : edge_source es r i ≡ e

reaches_out : (es : List ℕ) (r : ℕ) (g : ℕ → Bool) (e : ℕ) → T (reaches es r g e) → (i : ℕ) × Reached es r g e i
reaches_out es r g e t =
    let w = some_there (edges_in es) _ t in
    let p = and_out _ _ w.2 in
    let q = and_out _ _ p.1 in
    (w.0, record { listed = w.1; role_is = eqb→eq _ _ p.0; passed = q.0; source_is = eqb→eq _ _ q.1 })

reaches_in : (es : List ℕ) (r : ℕ) (g : ℕ → Bool) (e i : ℕ) → Reached es r g e i → T (reaches es r g e)
reaches_in es r g e i w = there_some (edges_in es) _ i w.listed (and_in _ _ (eq_T _ _ w.role_is) (and_in _ _ w.passed (eq_T _ _ w.source_is)))

module _ (m : Model) (formed : WellFormed m) where
  abbrev I : Interpretation
  I = described m

  abbrev es : List ℕ
  es = m.edges.now

  marked_in_range : (a e : ℕ) → T (marked m.marks.now a e) → e < m.size
  marked_in_range a e t =
      let w = some_there (marks_in m.marks.now) _ t in
      subst (λ x. x < m.size) (eqb→eq _ _ (and_out _ _ w.2).1) (formed.good_marks w.0 w.1).element_in_range

  reached_in_range : (r : ℕ) (g : ℕ → Bool) (e : ℕ) → T (reaches es r g e) → e < m.size
  reached_in_range r g e t = let (i, w) = reaches_out es r g e t in subst (λ x. x < m.size) w.source_is (source_in_range m formed r i w.listed)

  -- role r leads from e to an element that g passes exactly if an edge does
  reaches_leads : (r : ℕ) (g : ℕ → Bool) (e : ℕ) → T (reaches es r g e) → (y : ℕ) × Element I y × Leads I r e y × T (g y)
  reaches_leads r g e t =
      let (i, w) = reaches_out es r g e t in
      (edge_target es r i, element m _ (target_in_range m formed r i w.listed), subst (λ x. Leads I r x (edge_target es r i)) w.source_is (leads_in m r i w.listed w.role_is), w.passed)

  leads_reaches : (r : ℕ) (g : ℕ → Bool) (e y : ℕ) → Leads I r e y → T (g y) → T (reaches es r g e)
  leads_reaches r g e y l t =
      let (i, p) = leads_out m r e y l in
      reaches_in es r g e i (record { listed = p.listed; role_is = p.role_is; passed = subst (λ x. T (g x)) (sym p.target_is) t; source_is = p.source_is })

  -- the rows below c have elements alone
  OnlyElements : List ℕ → ℕ → Type 0
  OnlyElements rows c = (a e : ℕ) → a < c → e < 256 → T (contains rows a e) → e < m.size

  computed_means : (rows : List ℕ) (c : ℕ) → OnlyElements rows c → (k : Concept) → all_below (parts k) c ≡ true → (e : ℕ) → e < 256 →
      T (computed m rows k e) ↔ (Element I e × Means I (λ a x. T (contains rows a x)) k e)
  unfolding OnlyElements
  computed_means rows c o Top p e l = let n = formed.sized.inhabited in grind (arith, common_steps)
  computed_means rows c o Bottom p e l = (λ t. absurd t, λ t. t.1)
  computed_means rows c o (Name a) p e l = (λ t. (element m e (marked_in_range a e t), t), λ t. t.1)
  computed_means rows c o (NotName a) p e l = let f = marked_in_range a e in let n = formed.sized.inhabited in grind (arith, common_steps)
  computed_means rows c o (And a b) p e l = let q = two_below a b c p in let x = o a e q.0 l in let n = formed.sized.inhabited in grind (arith, common_steps)
  computed_means rows c o (Or a b) p e l = let q = two_below a b c p in let x = o a e q.0 l in let y = o b e q.1 l in let n = formed.sized.inhabited in grind (arith, common_steps)
  computed_means rows c o (Only r b) p e l =
      let outside : ℕ → Bool = λ y. not (contains rows b y) in (
        (λ t.
            let q = turned_out (ltb e m.size) (reaches es r outside e) (λ u. lt→ltb e m.size (reached_in_range r outside e u)) t in
            (element m e (ltb→lt e m.size q.0), λ y hy g. ⊎_elim (λ z. z) (λ z. absurd (T_not _ q.1 (leads_reaches r outside e y g z))) (either_way (contains rows b y)))),
        λ t. turned_in (ltb e m.size) (reaches es r outside e) (lt→ltb e m.size (in_range m e formed t.0))
            (not_T _ (λ u. let (y, hy, g, z) = reaches_leads r outside e u in T_not (contains rows b y) z (t.1 y hy g))),
      )
  computed_means rows c o (Exists r b) p e l = (
    (λ t. (element m e (reached_in_range r (λ y. contains rows b y) e t), reaches_leads r (λ y. contains rows b y) e t)),
    λ t. leads_reaches r (λ y. contains rows b y) e t.1.0 t.1.2 t.1.3,
  )

  -- one row more
  pub row_more : (cs : List Concept) (old new : List ℕ) (c : ℕ) → Ordered parts cs → c < length cs →
      RowsHold I cs old c → RowBecomes old new c (λ e. computed m old (get_or cs c Top) e) → RowsHold I cs new (c + 1)
  unfolding OnlyElements
  row_more cs old new c o lc hold becomes a e ha le = ⊎_elim
      (λ (q : a ≡ c). subst (λ x. T (contains new x e) ↔ (Element I e × LiesIn I cs x e)) (sym q) here)
      (λ (d : a ≡ c → ⊥). subst (λ b. T b ↔ (Element I e × LiesIn I cs a e)) (sym (other_row old new c _ becomes a e d le)) (hold a e (omega arith) le))
      (cases_eq a c)
    where
      small : (x : ℕ) → Element I x → x < 256
      small x h = let f = formed.sized.few_elements in let k = in_range m x formed h in omega arith

      here : T (contains new c e) ↔ (Element I e × LiesIn I cs c e)
      here =
          let s = computed_means old c (λ a x ha lx t. in_range m x formed ((hold a x ha lx).0 t).0) (get_or cs c Top) (o c Top lc) e le in (
            λ t. let q = s.0 (subst T (becomes.elements e le) t) in (
              q.0,
              means_at I cs c e (get_or cs c Top) (lc, refl)
                  (means_map I (λ a x. T (contains old a x)) (LiesIn I cs) c (λ a x ha hx t. ((hold a x ha (small x hx)).0 t).1) (get_or cs c Top) (o c Top lc) e q.0 q.1),
            ),
            λ t. subst T (sym (becomes.elements e le)) (s.1 (
              t.0,
              means_map I (LiesIn I cs) (λ a x. T (contains old a x)) c (λ a x ha hx t. (hold a x ha (small x hx)).1 (hx, t)) (get_or cs c Top) (o c Top lc) e t.0 (out I cs c e t.1),
            )),
          )
