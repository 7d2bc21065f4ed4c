-- The docket that the runs begin with was just opened.
use Rattle.std.proofs.Common.{◌≡◌, ℕ, zero, suc, Bool, true, false, cond, ltb, List, ◌∷◌, ◌++◌, get_or, replicate, None, Option, sym, refl, subst, arith}
use Rattle.vocabulary.specs.Mates.{mate}
use Rattle.docket.specs.Dockets.{Fresh}
use Rattle.examples.specs.SmallDocket.{no_pair, no_mates}
use Rattle.examples.specs.RunCases.{opened}

all_single : ◌≡◌ {A = List (Option ℕ)} (None ∷ None ∷ None ∷ None ∷ None ∷ no_mates) (replicate 1024 None)
unfolding no_mates
all_single = refl

none_there : (n c : ℕ) (b : Bool) → ◌≡◌ {A = Option ℕ} (cond b (get_or (replicate n None) c None) None) None
none_there n c false = refl
none_there zero c true = refl
none_there (suc n) zero true = refl
none_there (suc n) (suc c) true = none_there n c true

single : (c : ℕ) → mate (record { of = no_pair ++ no_mates }) c ≡ None
single c =
    subst (λ (ms : List (Option ℕ)). mate (record { of = ms }) c ≡ None) (sym all_single) (none_there 1024 c (ltb c 1024))

pub opened_fresh : Fresh opened
opened_fresh = record {
  unsealed = refl;
  nothing_said = record {
    no_role_axiom = refl;
    no_concept = refl;
    no_mate = single;
    no_axiom = refl;
  };
  no_line = refl;
  no_claim = refl;
  concept_room = (omega arith, omega arith);
  line_room = (omega arith, omega arith);
}
