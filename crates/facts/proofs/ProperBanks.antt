-- Banks of proper rules are proper, and mates stay mates as two concepts more are paired.
use Rattle.std.proofs.Common.{◌≡◌, ℕ, Bool, true, false, cond, ◌&&◌, eqb, refl, ap, ◌∙◌}
use Rattle.std.proofs.lemmas.Bool.{and_parts, and_from, eq-eqb}
use Rattle.logic.specs.Theories.{Theory, found, are_mates}
use Rattle.logic.specs.Pairing.{Pairable, joined}
use Rattle.logic.proofs.Mating.{still_mates}
use Rattle.logic.proofs.Pairings.{found_some}
use Rattle.calculus.specs.declared.rule.Principals.{Principals}
use Rattle.calculus.specs.Schemas.{Schema}
use Rattle.calculus.specs.Calculi.{Calculus, alone, beside}
use Rattle.facts.specs.Proper.{ProperRule, Proper}

pub alone_proper : (r : Schema) → ProperRule r.applies r.concludes → Proper (alone r)
alone_proper r p n = record {
  principals_stand = λ t on X kept stand h. let (same, taken) = rule t on X h in p.principals_stand t on X kept stand taken;
  still_applies = λ t c d kept able on X h.
      let (same, taken) = rule t on X h in
      and_from (eqb n r.number) _ same (p.still_applies t c d kept able on X taken);
  still_concludes = λ t c d kept able on X h i e.
      let (same, taken) = rule t on X h in
      ap (λ b. eqb n r.number && b) (p.still_concludes t c d kept able on X taken i e);
}
  where
    rule : (t : Theory) (on : Principals) (X : ℕ → Bool) → (eqb n r.number && r.applies t on X) ≡ true
        → (eqb n r.number ≡ true) × (r.applies t on X ≡ true)
    rule t on X h = and_parts (eqb n r.number) (r.applies t on X) h

pub beside_proper : (a b : Calculus) → Proper a → Proper b → Proper (beside a b)
beside_proper a b p q n = either (a.has n)
  where
    either : (z : Bool)
        → ProperRule (λ t on X. cond z (a.applies n t on X) (b.applies n t on X))
        (λ t on X i c. cond z (a.concludes n t on X i c) (b.concludes n t on X i c))
    either true = p n
    either false = q n

-- who had a mate has it still
pub mates_stay : (t : Theory) (c d : ℕ) → Pairable t c d
    → (p q : ℕ) → are_mates t.mates p q ≡ true → are_mates (joined t.mates c d) p q ≡ true
mates_stay t c d able p q h =
    let still = still_mates t.mates c d able.first_is_single able.second_is_single p q (found_some (t.mates p) q h) in
    ap (λ o. found o q) still ∙ eq-eqb q q refl
