-- Whether an interpretation meets role axioms, as a test.
use Rattle.std.proofs.Common.{ℕ, suc, ◌≤◌, Bool, true, not, ◌&&◌, T, ◌↔◌, List, [], ◌∷◌, sym, refl, subst, ⊎_elim, arith, T_not}
use mathlib.Core.List.Memᴰ
use lib.Dec.{not_T}
use Rattle.logic.specs.declared.role.RoleAxiom.{RoleAxiom}
use Rattle.logic.specs.declared.role.RoleAxiom.TheVariants.{Inclusion, Transitivity}
use Rattle.logic.specs.Interpretations.{Interpretation, leads, MeetsRoleAxiom, MeetsRoleAxioms}
use Rattle.bits.specs.Below.{some_below}
use Rattle.bits.proofs.Tests.{and_out, and_in}
use Rattle.logic.proofs.Complements.{either_way}
use Rattle.bits.proofs.SomeBelow.{some_there, there_some}

module _ (I : Interpretation) where
  -- whether some element passes
  abbrev some : (ℕ → Bool) → Bool
  some f = some_below (suc I.last) f

  -- whether some pair of the first role is no pair of the second, or some two steps can't be made as one
  abbrev breaks : RoleAxiom → Bool
  breaks (Inclusion r s) = some (λ x. some (λ y. leads I r x y && not (leads I s x y)))
  breaks (Transitivity r) = some (λ x. some (λ y. leads I r x y && some (λ z. leads I r y z && not (leads I r x z))))

  abbrev pub is_met : List RoleAxiom → Bool
  is_met [] = true
  is_met (a ∷ axioms) = not (breaks a) && is_met axioms

  found : (f : ℕ → Bool) (x : ℕ) → x ≤ I.last → T (f x) → T (some f)
  found f x l t = there_some (suc I.last) f x (omega arith) t

  broken : (a : RoleAxiom) → T (breaks a) → MeetsRoleAxiom I a → ⊥
  broken (Inclusion r s) t h =
      let (x, lx, u) = some_there _ _ t in
      let (y, ly, w) = some_there _ _ u in
      let p = and_out _ _ w in
      T_not _ p.1 (h x y (omega arith) (omega arith) p.0)
  broken (Transitivity r) t h =
      let (x, lx, u) = some_there _ _ t in
      let (y, ly, w) = some_there _ _ u in
      let p = and_out _ _ w in
      let (z, lz, q) = some_there _ _ p.1 in
      let k = and_out _ _ q in
      T_not _ k.1 (h x y z (omega arith) (omega arith) (omega arith) p.0 k.0)

  unbroken : (a : RoleAxiom) → (T (breaks a) → ⊥) → MeetsRoleAxiom I a
  unbroken (Inclusion r s) f = λ x y hx hy t.
      ⊎_elim (λ h. h) (λ h. absurd (f (found _ x hx (found _ y hy (and_in _ _ t h))))) (either_way (leads I s x y))
  unbroken (Transitivity r) f = λ x y z hx hy hz t u.
      ⊎_elim
      (λ h. h)
      (λ h. absurd (f (found _ x hx (found _ y hy (and_in _ _ t (found _ z hz (and_in _ _ u h)))))))
      (either_way (leads I r x z))

  pub met_decided : (axioms : List RoleAxiom) → T (is_met axioms) ↔ MeetsRoleAxioms I axioms
  met_decided [] = (λ t a m. absurd (Memᴰ.not-nil m), λ h. tt)
  met_decided (a ∷ axioms) = (
    λ t b m.
        let p = and_out _ _ t in
        ⊎_elim
        (λ e. subst (MeetsRoleAxiom I) (sym e) (unbroken a (T_not (breaks a) p.0)))
        ((met_decided axioms).0 p.1 b)
        (Memᴰ.cases_cons m),
    λ h. and_in _ _
        (not_T (breaks a) (λ t. broken a t (h a (Memᴰ.head refl))))
        ((met_decided axioms).1 (λ b m. h b (Memᴰ.tail m))),
  )
