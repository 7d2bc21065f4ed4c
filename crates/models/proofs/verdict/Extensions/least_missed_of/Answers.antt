use Rattle.std.proofs.Common.{◌≡◌, ℕ, true, T, refl, rules, tests}
use Rattle.std.proofs.lemmas.Iterator.{first_from_Range}
use Rattle.bits.specs.Bits.{has}
use Rattle.rows.specs.Rows.{contains}
use Rattle.models.proofs.FirstFacts.{first_number}
use Rattle.models.proofs.verdict.Extensions.least_missed_of.Goals as goal

pub returns : goal.returns
returns c =
    let self = c.args.self.now in
    let Lies : ℕ → Type 0 = λ k. has c.args.label.now k ≡ true → T (contains self.rows.now k c.args.point) in
    first_number _ _ _ _ refl (first_from_Range _ _ _ _ (λ k. Lies k → ⊥) Lies c.find.ensures.ran
    (λ x q k. search (rules, tests))
    (λ x q k. (search rules, search (rules, tests))))
