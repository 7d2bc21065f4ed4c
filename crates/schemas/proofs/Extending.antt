-- Rows with numbers put in, cut to those that stand.
use Rattle.std.proofs.Common.{◌≡◌, ℕ, ◌*◌, Bool, true, false, ◌&&◌, ◌||◌, ltb, List, [], ◌∷◌, length, refl, ap, ◌∙◌}
use mathlib.Core.Bool.{or_comm}
use Rattle.bits.specs.Bits.{has, inserted}
use Rattle.bits.proofs.BitFacts.{length_inserted}
use Rattle.bits.specs.Among.{among}
use Rattle.labels.specs.Labels.{Row, filled}
use Rattle.labels.proofs.RowFacts.{filled_has}
use Rattle.calculus.specs.declared.premise.Premise.{Premise}
use Rattle.vocabulary.specs.Vocabularies.{concepts}

within : (b t a h : Bool) → (b && (t && ((b && a) || h))) ≡ (b && (t && (h || a)))
within true t a h = ap (λ z. t && z) (or_comm a h)
within false t a h = refl

-- a row that numbers are put into keeps its length
pub filled_length : (r ms : List ℕ) → length (filled r ms) ≡ length r
filled_length r [] = refl
filled_length r (m ∷ ms) = filled_length (inserted r m) ms ∙ length_inserted r m

pub extended_row : (row all added r : List ℕ) (count : ℕ) → length row ≡ 16 → all ≡ filled row added
    → Row r (λ c. ltb c count && has all c)
    → Row r (λ c. ltb c count && (has row c || among added c))
extended_row row all added r count size e (sixteen, cut) = (
  sixteen,
  λ c.
      cut c
      ∙ ap (λ z. ltb c 1024 && (ltb c count && z)) (ap (λ m. has m c) e ∙ filled_has row added c
      ∙ ap (λ n. (ltb c (64 * n) && among added c) || has row c) size)
      ∙ within (ltb c 1024) (ltb c count) (among added c) (has row c),
)

-- a conclusion that the step has, from a row of what it shows
pub concluded_row : (r : List ℕ) (shown lists : ℕ → Bool) {held : Bool} → held ≡ true → ((c : ℕ) → shown c ≡ lists c)
    → Row r shown → Row r (λ c. held && lists c)
concluded_row r shown lists a e (sixteen, same) = (sixteen, λ c. same c ∙ ap (λ z. ltb c 1024 && z) (e c) ∙ rw a refl)

-- the label with `given` put in, which is what the rule adds
pub added_row : (at : Premise) (r : List ℕ) {given added : List ℕ} {held : Bool} → held ≡ true → given ≡ added
    → Row r (λ c. ltb c (length (concepts at.vocabulary.now)) && (has at.label.now c || among given c))
    → Row r (λ c. held && (ltb c (length (concepts at.vocabulary.now)) && (has at.label.now c || among added c)))
added_row at r a e = concluded_row r _ _ a
    (λ c. ap (λ m. ltb c (length (concepts at.vocabulary.now)) && (has at.label.now c || among m c)) e)

narrowed : (b t s : Bool) → (b && (t && (b && s))) ≡ (b && (t && s))
narrowed true t s = refl
narrowed false t s = refl

-- what stands of a row
pub cut_row : (row r : List ℕ) (count : ℕ) (shown : ℕ → Bool) → Row row shown
    → Row r (λ c. ltb c count && has row c) → Row r (λ c. ltb c count && shown c)
cut_row row r count shown (_, all) (sixteen, cut) =
    (sixteen, λ c. cut c ∙ ap (λ z. ltb c 1024 && (ltb c count && z)) (all c) ∙ narrowed (ltb c 1024) (ltb c count) (shown c))
