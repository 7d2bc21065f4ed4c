-- A row that a walk over a list fills.
use Rattle.std.proofs.Common.{◌≡◌, ℕ, ◌+◌, ◌<◌, Bool, true, false, ◌&&◌, ◌||◌, eqb, List, sym, refl, ap, ◌∙◌, ap₂}
use mathlib.Core.Bool.{or-false, or_comm}
use Rattle.rows.specs.Rows.{contains, turned, RowBecomes}
use Rattle.models.specs.declared.items.Edge.{Edge}
use Rattle.models.specs.Items.{target}
use Rattle.bits.specs.Below.{some_below}
use Rattle.bits.proofs.SomeBelow.{some_none, some_next}

-- one write after another
pub row_then : (a b d : List ℕ) (c : ℕ) (f g : ℕ → Bool) → RowBecomes a b c f → RowBecomes b d c g → RowBecomes a d c g
row_then a b d c f g p q = record { elements = q.elements; others = λ i n. q.others i n ∙ p.others i n }

pub row_as : (a b : List ℕ) (c : ℕ) (f g : ℕ → Bool) → RowBecomes a b c f → ((e : ℕ) → e < 256 → f e ≡ g e) → RowBecomes a b c g
row_as a b c f g p h = record { elements = λ e l. p.elements e l ∙ h e l; others = p.others }

-- the row so far: the elements s k of those k below i that p passes
abbrev pub walked : (ℕ → Bool) → (ℕ → ℕ) → ℕ → ℕ → Bool
walked p s i e = some_below i (λ k. p k && eqb (s k) e)

-- whether the target of an edge, as a pair of role r, is inside, or outside
abbrev pub hits : ℕ → Bool → (ℕ → Bool) → Edge → Bool
hits r outside inside e = turned outside (inside (target r e))

pub walk_none : (z old : List ℕ) (c : ℕ) (p : ℕ → Bool) (s : ℕ → ℕ) → RowBecomes z old c (λ _. false) → RowBecomes old old c (λ e. walked p s 0 e)
walk_none z old c p s h = record { elements = λ e l. h.elements e l ∙ sym (some_none (λ k. p k && eqb (s k) e)); others = λ i n. refl }

pub walk_insert : (old new newer : List ℕ) (c : ℕ) (p : ℕ → Bool) (s : ℕ → ℕ) (i x : ℕ) → RowBecomes old new c (λ e. walked p s i e) → p i ≡ true → x ≡ s i →
    RowBecomes new newer c (λ e. eqb x e || contains new c e) → RowBecomes old newer c (λ e. walked p s (i + 1) e)
walk_insert old new newer c p s i x h y q n = record {
  elements = λ e l.
      n.elements e l ∙ ap₂ ◌||◌ (ap (λ z. eqb z e) q) (h.elements e l) ∙ or_comm (eqb (s i) e) (walked p s i e)
      ∙ sym (some_next i (λ k. p k && eqb (s k) e) ∙ ap (λ b. walked p s i e || (b && eqb (s i) e)) y);
  others = λ j m. n.others j m ∙ h.others j m;
}

pub walk_skip : (old new : List ℕ) (c : ℕ) (p : ℕ → Bool) (s : ℕ → ℕ) (i : ℕ) → RowBecomes old new c (λ e. walked p s i e) → p i ≡ false → RowBecomes old new c (λ e. walked p s (i + 1) e)
walk_skip old new c p s i h y = record {
  elements = λ e l. h.elements e l ∙ sym (some_next i (λ k. p k && eqb (s k) e) ∙ ap (λ b. walked p s i e || (b && eqb (s i) e)) y ∙ or-false (walked p s i e));
  others = h.others;
}

pub walk_all : (z old new : List ℕ) (c : ℕ) (p : ℕ → Bool) (s : ℕ → ℕ) (i n : ℕ) → RowBecomes z old c (λ _. false) → RowBecomes old new c (λ e. walked p s i e) → i ≡ n → RowBecomes z new c (λ e. walked p s n e)
walk_all z old new c p s i n h k q = row_as z new c _ _ (row_then z old new c _ _ h k) (λ e l. ap (λ j. walked p s j e) q)
