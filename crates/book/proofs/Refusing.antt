-- Which check of a draft refuses first.
use Rattle.std.proofs.Common.{◌≡◌, ℕ, ◌+◌, ◌<◌, leb, List, [], ◌∷◌, ◌++◌, length, Some, None, Option, sym, ap, ◌∙◌}
use Rattle.std.proofs.lemmas.Bool.{lt-leb}
use Rattle.refusals.specs.Checks.{with, otherwise, first}
use Rattle.refusals.proofs.Clearing.{first_before, first_behind, none_when}
use Rattle.labels.specs.Labels.{falling_at}
use Rattle.logic.specs.Theories.{Theory}
use Rattle.calculus.specs.Calculi.{Calculus}
use Rattle.book.specs.declared.filing.Draft.{Draft}
use Rattle.book.specs.declared.line.Line.{Line}
use Rattle.book.specs.Drafts.{members, range_checks, absent_checks, licence_checks, late_checks, draft_checks}

module _ (k : Calculus) (t : Theory) (ls : List Line) (room : ℕ) (f : Draft) (ranged : first (range_checks k f) ≡ None) where
  pub named_refused : (x : ℕ × ℕ) → first (absent_checks k t ls f) ≡ Some x → first (draft_checks k t ls room f) ≡ Some x
  named_refused x h = first_behind (range_checks k f) (absent_checks k t ls f ++ late_checks k t ls room f) (Some x) ranged (first_before (absent_checks k t ls f) (late_checks k t ls room f) x h)

  pub rising_refused : (x : ℕ × ℕ) → first (absent_checks k t ls f) ≡ None → length ls < room → (falling : Option ℕ) → falling ≡ falling_at (members f)
      → first (with (λ i. (6, i + 6)) falling ∷ []) ≡ Some x → first (draft_checks k t ls room f) ≡ Some x
  rising_refused x named free falling is found = first_behind (range_checks k f) (absent_checks k t ls f ++ late_checks k t ls room f) (Some x) ranged
      (first_behind (absent_checks k t ls f) (late_checks k t ls room f) (Some x) named
      (ap (λ o. otherwise o (first order)) (none_when (leb room (length ls)) (5, room) (lt-leb room (length ls) free))
      ∙ first_before (with (λ i. (6, i + 6)) (falling_at (members f)) ∷ []) (licence_checks k t ls f) x h))
    where
      h : first (with (λ i. (6, i + 6)) (falling_at (members f)) ∷ []) ≡ Some x
      h = ap (λ o. first (with (λ i. (6, i + 6)) o ∷ [])) (sym is) ∙ found

      order : List (Option (ℕ × ℕ))
      order = with (λ i. (6, i + 6)) (falling_at (members f)) ∷ licence_checks k t ls f
