-- A table of rows, as a walk over the edges or the marks fills it.
use Rattle.std.proofs.Common.{◌≡◌, ℕ, ◌+◌, ◌*◌, ◌/◌, ◌%◌, ◌<◌, Bool, true, false, cond, ◌&&◌, ◌||◌, eqb, List, replicate, sym, refl, ap, ◌∙◌, ap₂, ⊎_elim}
use Rattle.std.proofs.lemmas.Bool.{cases_eq, eq-eqb, ne_eqb}
use mathlib.Core.Bool.{or-false, or_comm, and_comm}
use Rattle.bits.proofs.BitFacts.{has_zeros}
use Rattle.rows.specs.Rows.{contains, RowBecomes}
use Rattle.rows.proofs.RowFacts.{contains_has, other_row}
use Rattle.logic.specs.Interpretations.{leads}
use Rattle.models.specs.declared.Model.{Model}
use Rattle.models.specs.declared.items.Edge.{Edge}
use Rattle.models.specs.Items.{edges_in, edge_role, edge_from, edge_to, edge_at, source, target}
use Rattle.bits.specs.Below.{some_below}
use Rattle.models.specs.Models.{described}
use Rattle.bits.proofs.SomeBelow.{some_none, some_next, some_same}

-- whether an edge, as a pair of role r, leads from x to z
abbrev pub is_pair : ℕ → ℕ → ℕ → Edge → Bool
is_pair r x z e = eqb (source r e) x && eqb (target r e) z

-- the first n rows of the table have the pairs (s k, t k) of the numbers k below i
abbrev pub TabledTo : ℕ → (ℕ → ℕ) → (ℕ → ℕ) → ℕ → List ℕ → Type 0
TabledTo n s t i table = (x z : ℕ) → x < n → z < 256 → contains table x z ≡ some_below i (λ k. eqb (s k) x && eqb (t k) z)

module _ (n : ℕ) (s t : ℕ → ℕ) where
  pub table_none : (words : ℕ) → TabledTo n s t 0 (replicate words 0)
  table_none words x z h l = contains_has (replicate words 0) x z l ∙ has_zeros words (256 * x + z) ∙ sym (some_none (λ k. eqb (s k) x && eqb (t k) z))

  pub table_insert : (i a b : ℕ) (old new : List ℕ) → TabledTo n s t i old → a ≡ s i → b ≡ t i → RowBecomes old new a (λ e. eqb b e || contains old a e) → TabledTo n s t (i + 1) new
  table_insert i a b old new p qa qb w x z h l =
      ⊎_elim here there (cases_eq a x)
      ∙ sym (some_next i (λ k. eqb (s k) x && eqb (t k) z) ∙ ap₂ (λ c d. so_far || (eqb c x && eqb d z)) (sym qa) (sym qb))
    where
      so_far : Bool
      so_far = some_below i (λ k. eqb (s k) x && eqb (t k) z)

      here : a ≡ x → contains new x z ≡ (so_far || (eqb a x && eqb b z))
      here e =
          ap (λ c. contains new c z) (sym e) ∙ w.elements z l ∙ ap (λ c. eqb b z || contains old c z) e ∙ ap (λ y. eqb b z || y) (p x z h l)
          ∙ or_comm (eqb b z) so_far ∙ sym (ap (λ y. so_far || (y && eqb b z)) (eq-eqb a x e))

      there : (a ≡ x → ⊥) → contains new x z ≡ (so_far || (eqb a x && eqb b z))
      there m =
          other_row old new a _ w x z (λ e. m (sym e)) l ∙ p x z h l
          ∙ sym (ap (λ y. so_far || (y && eqb b z)) (ne_eqb a x m) ∙ or-false so_far)

-- all the edges are all the pairs
pub table_leads : (m : Model) (r x z : ℕ) →
    some_below (edges_in m.edges.now) (λ i. eqb (edge_role m.edges.now i) (r / 2) && is_pair r x z (edge_at m.edges.now i)) ≡ leads (described m) r x z
table_leads m r x z = go (eqb (r % 2) 0)
  where
    es : List ℕ
    es = m.edges.now

    joins : ℕ → ℕ → ℕ → Bool
    joins x z k = eqb (edge_role es k) (r / 2) && (eqb (edge_from es k) x && eqb (edge_to es k) z)

    go : (b : Bool) → some_below (edges_in es) (λ k. eqb (edge_role es k) (r / 2) && (eqb (cond b (edge_from es k) (edge_to es k)) x && eqb (cond b (edge_to es k) (edge_from es k)) z))
        ≡ cond b (some_below (edges_in es) (joins x z)) (some_below (edges_in es) (joins z x))
    go true = refl
    go false = some_same (edges_in es) _ _ (λ k l. ap (λ b. eqb (edge_role es k) (r / 2) && b) (and_comm (eqb (edge_to es k) x) (eqb (edge_from es k) z)))
