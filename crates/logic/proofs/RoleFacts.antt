-- Inverse roles turn pairs round; what is below is included, and what counts as transitive is transitive.
use Rattle.std.proofs.Common.{◌≡◌, ℕ, zero, suc, ◌-◌, ◌/◌, ◌%◌, ◌<◌, cond, T, eqb, sym, refl, subst, inl, inr, arith}
use Rattle.logic.specs.declared.role.RoleAxiom.TheVariants.{Inclusion, Transitivity}
use Rattle.logic.specs.Roles.{inverse, listed, itself, chained, inverted}
use Rattle.logic.specs.Interpretations.{Interpretation, leads, Leads}
use Rattle.logic.specs.Laws.{BelowIsSound, TransitiveIsSound}

pub inverse_inverse : (r : ℕ) → inverse (inverse r) ≡ r
inverse_inverse r = omega arith

-- an even number of roles has the inverse of each
pub inverse_below : (roles r : ℕ) → roles % 2 ≡ 0 → r < roles → inverse r < roles
inverse_below roles r even h = omega arith

inverse_name : (r : ℕ) → inverse r / 2 ≡ r / 2
inverse_name r = omega arith

inverse_odd : (r : ℕ) → inverse r % 2 ≡ 1 - r % 2
inverse_odd r = omega arith

leads_turned : (I : Interpretation) (r x y : ℕ) → leads I (inverse r) x y ≡ leads I r y x
leads_turned I r x y = rw (inverse_name r, inverse_odd r) (go (r % 2) (omega arith))
  where
    go : (k : ℕ) → k < 2 → cond (eqb (1 - k) 0) (I.linked (r / 2) x y) (I.linked (r / 2) y x) ≡ cond (eqb k 0) (I.linked (r / 2) y x) (I.linked (r / 2) x y)
    go zero h = refl
    go (suc zero) h = refl
    go (suc (suc k)) h = absurd (omega arith)

pub leads_back : (I : Interpretation) (r x y : ℕ) → Leads I (inverse r) x y → Leads I r y x
leads_back I r x y h = subst T (leads_turned I r x y) h

pub leads_round : (I : Interpretation) (r x y : ℕ) → Leads I r y x → Leads I (inverse r) x y
leads_round I r x y h = subst T (sym (leads_turned I r x y)) h

pub below_is_sound : BelowIsSound
below_is_sound I axioms r s m (listed i) x y hx hy h = m (Inclusion r s) i x y hx hy h
below_is_sound I axioms r s m itself x y hx hy h = h
below_is_sound I axioms r s m (chained {s = t} p q) x y hx hy h = below_is_sound I axioms t s m q x y hx hy (below_is_sound I axioms r t m p x y hx hy h)
below_is_sound I axioms r s m (inverted {r = r'} {s = s'} p) x y hx hy h = leads_round I s' x y (below_is_sound I axioms r' s' m p y x hy hx (leads_back I r' x y h))

pub transitive_is_sound : TransitiveIsSound
transitive_is_sound I axioms r m (inl i) x y z hx hy hz h k = m (Transitivity r) i x y z hx hy hz h k
transitive_is_sound I axioms r m (inr i) x y z hx hy hz h k =
    rw inverse_inverse at (leads_round I (inverse r) x z (m (Transitivity (inverse r)) i z y x hz hy hx (back y z k) (back x y h)))
  where
    back : (a b : ℕ) → Leads I r a b → Leads I (inverse r) b a
    back a b l = leads_round I r b a l
