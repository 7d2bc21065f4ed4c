-- The answers mean what they should.
use Rattle.std.proofs.Common.{◌≡◌, ℕ, true, false, ◌↔◌, List, [], ◌∷◌, Some, None, Ok, Err, Option, Result, sym, subst, arith}
use Rattle.register.specs.declared.store.Unfit.{Unfit}
use Rattle.register.specs.declared.store.Unfit.TheVariants.{Refers, Full}
use Rattle.logic.specs.declared.concept.Concept.{Concept}
use Rattle.logic.specs.Meaning.{LiesIn}
use Rattle.logic.specs.Pairing.{pairable, Pairable}
use Rattle.logic.proofs.RoleFacts.{below_is_sound, transitive_is_sound}
use Rattle.logic.proofs.Complements.{opposites_are_complements}
use Rattle.logic.proofs.Keeping.{mates_opposite}
use Rattle.logic.proofs.Meanings.{meanings_stay}
use Rattle.logic.proofs.Pairings.{pairable_is_decided}
use Rattle.closure.specs.Decide.{is_below, is_transitive}
use Rattle.closure.proofs.Decided.{true_below, below_true, true_transitive, transitive_true}
use Rattle.vocabulary.specs.declared.Vocabulary.{Vocabulary}
use Rattle.vocabulary.specs.Vocabularies.{concepts, theory, ConceptFiled}
use Rattle.docket.specs.declared.Docket.{Docket}
use Rattle.docket.specs.Questions.{roles, SaysBelow, SaysTransitive, SaysMate, MeansTheSame}
use Rattle.docket.specs.Runs.{Banks, Reached}
use Rattle.docket.proofs.Reaching.{reached_kept}

pub says_below : (d : Docket) (r s : ℕ) → SaysBelow d r s (is_below (roles d) r s)
says_below d r s = record {
  exact = (true_below (roles d) r s, below_true (roles d) r s);
  sound = λ h I meets. below_is_sound I (roles d) r s meets (true_below (roles d) r s h);
}

pub says_transitive : (d : Docket) (r : ℕ) → SaysTransitive d r (is_transitive (roles d) r)
says_transitive d r = record {
  exact = (true_transitive (roles d) r, transitive_true (roles d) r);
  sound = λ h I meets. transitive_is_sound I (roles d) r meets (true_transitive (roles d) r h);
}

pub says_mate : (b : Banks) (d : Docket) (c : ℕ) (o : Option ℕ) → o ≡ (theory d.vocabulary).mates c → Reached b d → SaysMate d c o
says_mate b d c None e p = tt
says_mate b d c (Some m) e p =
    let kept = reached_kept b d p in
    (λ I. opposites_are_complements I (concepts d.vocabulary) c m (mates_opposite (theory d.vocabulary) kept c m (sym e)), kept.each_other c m (sym e))

-- filing a concept leaves what stood as it was, taken or refused
pub means_after : (v w : Vocabulary) (k : Concept) (r : Result ℕ Unfit) → ConceptFiled v w k r → MeansTheSame v w
means_after v w k (Ok i) h = λ I c x l.
    subst (λ (cs : List Concept). LiesIn I (concepts v) c x ↔ LiesIn I cs c x) (sym h.0.3)
    (meanings_stay (concepts v) (k ∷ []) v.concepts.ordered I c x l)
means_after v w k (Err Refers) h = λ I c x l. rw h.0.1 (λ t. t, λ t. t)
means_after v w k (Err Full) h = λ I c x l. rw h.0.2 (λ t. t, λ t. t)

pub pairs : (v : Vocabulary) (c e : ℕ) → pairable (theory v) c e ≡ true → Pairable (theory v) c e
pairs v c e h = (pairable_is_decided (theory v) c e).0 h

pub never_pairs : (v : Vocabulary) (c e : ℕ) → pairable (theory v) c e ≡ false → Pairable (theory v) c e → ⊥
never_pairs v c e h p = let q = (pairable_is_decided (theory v) c e).1 p in let z : ◌≡◌ {A = ℕ} 0 1 = cc in omega arith
