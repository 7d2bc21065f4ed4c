-- A conclusion is written where no check refuses the question.
use Rattle.std.proofs.Common.{◌≡◌, ℕ, ◌+◌, true, not, List, [], ◌∷◌, None, Option, sym, ap, ◌∙◌}
use Rattle.std.proofs.lemmas.Bool.{not_from_true}
use Rattle.refusals.specs.Checks.{when, with, first}
use Rattle.refusals.proofs.Clearing.{clear, cleared, none_when, first_behind}
use Rattle.bits.specs.Bits.{has}
use Rattle.labels.specs.Labels.{absent_at, falling_at}
use Rattle.calculus.specs.Calculi.{Calculus}
use Rattle.vocabulary.specs.Vocabularies.{theory}
use Rattle.docket.specs.declared.Docket.{Docket}
use Rattle.docket.specs.declared.conclusion.Inquiry.{Inquiry}
use Rattle.docket.specs.Dockets.{count}
use Rattle.docket.specs.Conclusions.{asked_members, asked_label, early_checks, conclusion_checks}

-- what one reading of the members shows says that no check refuses
pub conclusion_clears : (k : Calculus) (d : Docket) (f : Inquiry) (words : ℕ) → first (early_checks k d f words) ≡ None
    → (absent falling : Option ℕ) (x : List ℕ) → absent ≡ absent_at (count d) (asked_members f) → falling ≡ falling_at (asked_members f) → x ≡ asked_label f
    → first {A = ℕ × ℕ} (with (λ i. (4, i + 5)) absent ∷ []) ≡ None → first {A = ℕ × ℕ} (with (λ i. (6, i + 5)) falling ∷ []) ≡ None
    → k.applies f.rule (theory d.vocabulary) f.on (has x) ≡ true → first (conclusion_checks k d f words) ≡ None
conclusion_clears k d f words early absent falling x a_is f_is x-is stands rises applies =
    first_behind (early_checks k d f words) late None early (cleared late (
      ap (with (λ i. (4, i + 5))) (sym a_is) ∙ (clear {A = ℕ × ℕ} (with (λ i. (4, i + 5)) absent ∷ []) stands).0,
      (
        ap (with (λ i. (6, i + 5))) (sym f_is) ∙ (clear {A = ℕ × ℕ} (with (λ i. (6, i + 5)) falling ∷ []) rises).0,
        (
          none_when (not (k.applies f.rule (theory d.vocabulary) f.on (has (asked_label f)))) (8, f.rule)
              (not_from_true (k.applies f.rule (theory d.vocabulary) f.on (has (asked_label f)))
              (ap (λ r. k.applies f.rule (theory d.vocabulary) f.on (has r)) (sym x-is) ∙ applies)),
          tt,
        ),
      ),
    ))
  where
    late : List (Option (ℕ × ℕ))
    late =
        with (λ i. (4, i + 5)) (absent_at (count d) (asked_members f))
        ∷ with (λ i. (6, i + 5)) (falling_at (asked_members f))
        ∷ when (not (k.applies f.rule (theory d.vocabulary) f.on (has (asked_label f)))) (8, f.rule) ∷ []
