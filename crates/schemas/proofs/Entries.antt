-- A concept that stands is what its tag and its numbers say.
use Rattle.std.proofs.Common.{◌≡◌, ℕ, Bool, true, false, cond, eqb, ltb, length, get_or, Some, None, refl, ap, ◌∙◌}
use Rattle.std.proofs.lemmas.Bool.{eqb-true, ltb-true}
use Rattle.logic.specs.declared.concept.Concept.{Concept}
use Rattle.logic.specs.declared.concept.Concept.TheVariants.{Top, Bottom, Name, NotName, And, Or, Only, Exists}
use Rattle.logic.specs.Concepts.{At, tag, first_number, second_number}
use Rattle.logic.specs.Theories.{Theory, concept_at}
use Rattle.schemas.specs.Tests.{tagged, first_of, second_of}
use Rattle.bits.proofs.Tests.{never}

-- the concept with this tag and these numbers
abbrev pub made_of : ℕ → ℕ → ℕ → Concept
made_of t a b =
    cond (eqb t 1) Bottom (cond (eqb t 2) (Name a) (cond (eqb t 3) (NotName a)
    (cond (eqb t 4) (And a b) (cond (eqb t 5) (Or a b) (cond (eqb t 6) (Only a b) (cond (eqb t 7) (Exists a b) Top))))))

made_again : (k : Concept) → k ≡ made_of (tag k) (first_number k) (second_number k)
made_again Top = refl
made_again Bottom = refl
made_again (Name a) = refl
made_again (NotName a) = refl
made_again (And c d) = refl
made_again (Or c d) = refl
made_again (Only r c) = refl
made_again (Exists r c) = refl

-- concept c stands, and is what its tag and its numbers say
pub tagged_at : (t : Theory) (c n : ℕ) → tagged n (concept_at t c) ≡ true
    → At t.concepts c (made_of n (first_of (concept_at t c)) (second_of (concept_at t c)))
tagged_at t c n h = go (ltb c (length t.concepts)) refl h
  where
    k : Concept
    k = get_or t.concepts c Top

    go : (b : Bool) → ltb c (length t.concepts) ≡ b → tagged n (cond b (Some k) None) ≡ true
        → At t.concepts c (made_of n (first_of (cond (ltb c (length t.concepts)) (Some k) None))
        (second_of (cond (ltb c (length t.concepts)) (Some k) None)))
    go true e q = rw e (
      ltb-true c (length t.concepts) e,
      made_again k ∙ ap (λ m. made_of m (first_number k) (second_number k)) (eqb-true (tag k) n q),
    )
    go false e q = never q
