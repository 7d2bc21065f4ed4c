-- Number and place tell refusals apart.
use Rattle.std.proofs.Common.{◌≡◌, ℕ, cond, eqb, sym, refl, ap, ◌∙◌}
use Rattle.refusals.specs.declared.Refusal.{Refusal}
use Rattle.refusals.specs.declared.Refusal.TheVariants.{Malformed, Phase, Range, Absent, Full, Order, Unpaired, Inapplicable, Unlicensed, Closed, Outside, Model, RoleAxiom, Axiom, Point}
use Rattle.refusals.specs.Table.{returned}

-- the refusal with this number and place; of the last row where no other has the number
abbrev refusal_of : ℕ → ℕ → Refusal
refusal_of n p =
    cond (eqb n 1) (Malformed p) (cond (eqb n 2) Phase (cond (eqb n 3) (Range p) (cond (eqb n 4) (Absent p) (cond (eqb n 5) (Full p)
    (cond (eqb n 6) (Order p) (cond (eqb n 7) Unpaired (cond (eqb n 8) (Inapplicable p) (cond (eqb n 9) (Unlicensed p) (cond (eqb n 10) (Closed p)
    (cond (eqb n 11) (Outside p) (cond (eqb n 12) (Model p) (cond (eqb n 13) (RoleAxiom p) (cond (eqb n 14) (Axiom p) (Point p))))))))))))))

told : (x : Refusal) → refusal_of (returned x).0 (returned x).1 ≡ x
told (Malformed p) = refl
told Phase = refl
told (Range p) = refl
told (Absent p) = refl
told (Full p) = refl
told (Order p) = refl
told Unpaired = refl
told (Inapplicable p) = refl
told (Unlicensed p) = refl
told (Closed p) = refl
told (Outside p) = refl
told (Model p) = refl
told (RoleAxiom p) = refl
told (Axiom p) = refl
told (Point p) = refl

-- refusals that are returned alike are one
pub returned_alike : (x y : Refusal) → returned x ≡ returned y → x ≡ y
returned_alike x y h = sym (told x) ∙ ap (λ r. refusal_of r.0 r.1) h ∙ told y
