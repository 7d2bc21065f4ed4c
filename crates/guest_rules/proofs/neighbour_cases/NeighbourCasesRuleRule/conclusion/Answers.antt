use Rattle.std.proofs.Common.{◌≡◌, ℕ, Bool, true, false, cond, ◌&&◌, eqb, ltb, length, Some, None, refl, ap, rules}
use Rattle.bits.specs.Bits.{has}
use Rattle.vocabulary.specs.Vocabularies.{theory}
use Rattle.schemas.specs.Tests.{first_of, second_of}
use Rattle.schemas.proofs.Extending.{concluded_row}
use Rattle.guest_rules.specs.Guests.{asked, asks_for_cases}
use Rattle.guest_rules.proofs.neighbour_cases.NeighbourCasesRuleRule.conclusion.Goals as goal

-- what the two cases are, where there are any
chosen : (asks : Bool) (x y : ℕ × ℕ) → Some x ≡ cond asks (Some y) None → (asks ≡ true) × (x ≡ y)
chosen true x y h = (refl, cc)
chosen false x y h = cc

pub returns-after-i-eq0 : goal.returns-after-i-eq0
returns-after-i-eq0 c =
    let at = c.args.at.now in
    let t = theory at.vocabulary.now in
    let o = asked t at.on in
    let found : ℕ × ℕ = (c.in-Some.d, c.in-Some.e) in
    let (asks, both) = chosen (asks_for_cases t at.on (has at.label.now)) found (first_of o, second_of o) c.in-Some.ensures in
    let first : c.in-Some.d ≡ first_of o = ap (λ (x : ℕ × ℕ). x.0) both in
    let second : c.in-Some.e ≡ second_of o = ap (λ (x : ℕ × ℕ). x.1) both in
    let part : c.if-i-eq0.part ≡ cond (eqb c.args.i 0) (first_of o) (second_of o) = search rules in
    concluded_row c.alone.result _ _ (search rules) (λ k. ap (λ d. ltb k (length t.concepts) && eqb d k) part) c.alone.ensures
