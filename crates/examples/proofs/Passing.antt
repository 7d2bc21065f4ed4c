-- One test over cases, and that what passes it holds.
use mathlib.Core.Bool.{Bool, true, false, not, ◌&&◌}
use mathlib.Core.List.{List, [], ◌∷◌}
use mathlib.Core.Logic.{◌↔◌}
use mathlib.Core.Path.{◌≡◌}
use Prim.Native.Nat.{ℕ}
use lib.Dec.{T, eqb, eqb→eq}
use Rattle.refusals.specs.Table.{returned}
use Rattle.logic.specs.Interpretations.{MeetsRoleAxioms}
use Rattle.logic.specs.Roles.{Below, Transitive}
use Rattle.closure.specs.Decide.{is_below, is_transitive}
use Rattle.closure.proofs.Decided.{below_decided, transitive_decided}
use Rattle.bits.specs.Below.{some_below}
use Rattle.models.specs.Models.{described}
use Rattle.bits.proofs.Tests.{and_out}
use Rattle.examples.specs.Cases.{Case, below, transitive, applies, admits, meets, lies, opens, reaches, runs, answers, returns, Is, Holds, AllHold}
use Rattle.examples.specs.RoleCases.{role_cases}
use Rattle.examples.specs.RunCases.{refusal_cases}
use Rattle.examples.specs.ModelCases.{meeting_cases}
use Rattle.examples.proofs.Meeting.{is_met, met_decided}

-- whether a test came out as the table says
abbrev pub agrees : Bool → Bool → Bool
agrees true said = said
agrees false said = not said

abbrev passes : Case → Bool
passes (below axioms r s said) = agrees (is_below axioms r s) said
passes (transitive axioms r said) = agrees (is_transitive axioms r) said
passes (meets m axioms said) = agrees (is_met (described m) axioms) said
passes (returns x number place) = eqb (returned x).0 number && eqb (returned x).1 place
-- the others are not tested
passes (applies t ms rule p q s said) = false
passes (admits d f said) = false
passes (lies m cs c e said) = false
passes (opens d) = false
passes (reaches b d) = false
passes (runs b d xs e) = false
passes (answers d c a) = false

abbrev all_pass : List Case → Bool
all_pass [] = true
all_pass (c ∷ cs) = passes c && all_pass cs

-- a test that decides P agrees with what is said of P only if that is right
pub agreed : (P : Type 0) (test said : Bool) → T test ↔ P → T (agrees test said) → Is P said
agreed P true true decides h = decides.0 tt
agreed P true false decides h = absurd h
agreed P false true decides h = absurd h
agreed P false false decides h = λ p. decides.1 p

same_pair : {a b : ℕ} (p : ℕ × ℕ) → p.0 ≡ a → p.1 ≡ b → p ≡ (a, b)
same_pair p e f = λ i. (e i, f i)

passed : (c : Case) → T (passes c) → Holds c
passed (below axioms r s said) h = agreed (Below axioms r s) (is_below axioms r s) said (below_decided axioms r s) h
passed (transitive axioms r said) h = agreed (Transitive axioms r) (is_transitive axioms r) said (transitive_decided axioms r) h
passed (meets m axioms said) h =
    agreed (MeetsRoleAxioms (described m) axioms) (is_met (described m) axioms) said (met_decided (described m) axioms) h
passed (returns x number place) h =
    let p = and_out (eqb (returned x).0 number) (eqb (returned x).1 place) h in
    same_pair (returned x) (eqb→eq (returned x).0 number p.0) (eqb→eq (returned x).1 place p.1)
passed (applies t ms rule p q s said) h = absurd h
passed (admits d f said) h = absurd h
passed (lies m cs c e said) h = absurd h
passed (opens d) h = absurd h
passed (reaches b d) h = absurd h
passed (runs b d xs e) h = absurd h
passed (answers d c a) h = absurd h

all_hold : (cs : List Case) → T (all_pass cs) → AllHold cs
all_hold [] h = tt
all_hold (c ∷ cs) h = let p = and_out (passes c) (all_pass cs) h in (passed c p.0, all_hold cs p.1)

pub roles_hold : AllHold role_cases
unfolding is_below is_transitive
roles_hold = all_hold role_cases tt

pub refusals_hold : AllHold refusal_cases
refusals_hold = all_hold refusal_cases tt

pub meetings_hold : AllHold meeting_cases
unfolding some_below
meetings_hold = all_hold meeting_cases tt
