-- Small models, well formed and evaluated, by tests.
use Rattle.std.proofs.Common.{◌≡◌, ℕ, zero, suc, ◌+◌, ◌*◌, ◌/◌, ◌%◌, ◌<◌, ◌≤◌, Bool, true, false, not, ◌||◌, T, ◌↔◌, List, length, get_or, sym, refl, ◌∙◌, subst, arith}
use Rattle.std.proofs.lemmas.Bool.{agree_below, agree_below_at}
use Rattle.std.proofs.lemmas.Float.{T_from_true}
use Rattle.std.proofs.lemmas.List.{get_or_past}
use Rattle.register.specs.References.{Ordered}
use Rattle.rows.specs.Rows.{contains}
use Rattle.logic.specs.declared.concept.Concept.{Concept}
use Rattle.logic.specs.declared.concept.Concept.TheVariants.{Top}
use Rattle.logic.specs.Concepts.{parts}
use Rattle.logic.specs.Meaning.{LiesIn}
use Rattle.models.specs.declared.Model.{Model}
use Rattle.models.specs.Items.{marks_in, edges_in, GoodMark, GoodEdge}
use Rattle.models.specs.Models.{WellFormed, described}
use Rattle.models.specs.Evaluation.{computed, RowsHold, Evaluated}
use Rattle.models.proofs.MeaningFacts.{row_more}
use Rattle.models.proofs.PairFacts.{element}
use Rattle.examples.specs.SmallDocket.{bytes, model}

-- a model is well formed if its sizes are right, and its marks and edges are good
pub formed : (n : ℕ) (ms es : List ℕ) → (0 < n) × (n ≤ 256) → (length ms / 2 ≤ 4096) × (length (bytes ms) ≡ 4 * (length ms / 2))
    → (length (bytes es) % 6 ≡ 0) × (edges_in (bytes es) ≤ 4096) → ((i : ℕ) → i < marks_in (bytes ms) → GoodMark (bytes ms) n i)
    → ((i : ℕ) → i < edges_in (bytes es) → GoodEdge (bytes es) n i) → WellFormed (model n ms es)
formed n ms es size marks edges good_marks good_edges = record {
  sized = record {
    inhabited = size.0;
    few_elements = size.1;
    pointed = size.0;
    few_marks = marks.0;
    whole_marks = marks.1;
    whole_edges = edges.0;
    few_edges = edges.1;
  };
  good_marks = good_marks;
  good_edges = good_edges;
}

module _ (m : Model) (is_formed : WellFormed m) (cs : List Concept) (rows : List ℕ) where
  -- whether each row has the elements that are computed from the rows
  abbrev pub is_evaluated : ℕ → Bool
  is_evaluated c = agree_below (contains rows c) (computed m rows (get_or cs c Top)) 256

  hold : agree_below is_evaluated (λ c. true) (length cs) ≡ true → Ordered parts cs → (n : ℕ) → n ≤ length cs
      → RowsHold (described m) cs rows n
  hold h o zero l = λ c e lc le. absurd (omega arith)
  hold h o (suc n) l =
      let next : n + 1 ≡ suc n = omega arith in
      let here = agree_below_at is_evaluated (λ c. true) (length cs) n h l in
      subst (RowsHold (described m) cs rows) next (row_more m is_formed cs rows rows n o l (hold h o n (omega arith)) (record {
        elements = λ e le. agree_below_at (contains rows n) (computed m rows (get_or cs n Top)) 256 e here le;
        others = λ i d. refl;
      }))

  pub evaluated : (old : List ℕ) → length rows ≤ 4 * length cs → length old ≤ 4 * length cs
      → agree_below is_evaluated (λ c. true) (length cs) ≡ true
      → Ordered parts cs → Evaluated (described m) cs old rows
  evaluated old few few-old h o = record {
    rows_hold = hold h o (length cs) (omega arith);
    rest_stays = λ i l. get_or_past rows i 0 (omega arith) ∙ sym (get_or_past old i 0 (omega arith));
  }

  -- and so the rows say which elements lie in the concepts
  pub lies_as_evaluated : agree_below is_evaluated (λ c. true) (length cs) ≡ true → Ordered parts cs
      → (c e : ℕ) → c < length cs → e < m.size
      → T (contains rows c e) ↔ LiesIn (described m) cs c e
  lies_as_evaluated h o c e lc le =
      let few = is_formed.sized.few_elements in
      let r = hold h o (length cs) (omega arith) c e lc (omega arith) in
      (λ t. (r.0 t).1, λ l. r.1 (element m e le, l))

-- whether every number below n passes f
abbrev pub every : ℕ → (ℕ → Bool) → Bool
every n f = agree_below f (λ k. true) n

pub every_at : (n : ℕ) (f : ℕ → Bool) (k : ℕ) → every n f ≡ true → k < n → T (f k)
every_at n f k h l = T_from_true (f k) (agree_below_at f (λ k. true) n k h l)

pub implied : (a b : Bool) → T (not a || b) → T a → T b
implied true b h t = h
implied false b h t = absurd t
