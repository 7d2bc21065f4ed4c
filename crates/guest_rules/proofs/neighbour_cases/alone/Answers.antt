use Rattle.std.proofs.Common.{◌≡◌, ℕ, ◌*◌, Bool, true, false, ◌&&◌, ◌||◌, eqb, ltb, List, length, refl, ap, ap₂, ◌∙◌}
use Rattle.bits.specs.Bits.{has, inserted}
use Rattle.bits.proofs.BitFacts.{length_inserted}
use Rattle.labels.specs.Labels.{Row}
use Rattle.labels.proofs.RowFacts.{inserted_has}
use Rattle.schemas.proofs.Extending.{cut_row}
use Rattle.guest_rules.proofs.neighbour_cases.alone.Goals as goal

or_nothing : (room here : Bool) → ((room && here) || (room && false)) ≡ (room && here)
or_nothing true true = refl
or_nothing true false = refl
or_nothing false here = refl

-- a row of nothing, with one number put in
one_row : (r s : List ℕ) (m : ℕ) → Row r (λ c. false) → s ≡ inserted r m → Row s (λ c. eqb m c)
one_row r s m (sixteen, none) e = (
  ap length e ∙ length_inserted r m ∙ sixteen,
  λ c. ap (λ x. has x c) e ∙ inserted_has r m c ∙ ap₂ (λ (n : ℕ) b. (ltb c (64 * n) && eqb m c) || b) sixteen (none c) ∙ or_nothing (ltb c 1024) (eqb m c),
)

pub returns : goal.returns
returns c =
    cut_row c.insert.new.row c.cut_to.result _ _ (one_row c.nothing-row.result c.insert.new.row c.args.c c.nothing-row.ensures c.insert.ensures)
    (simp c.len.ensures at c.cut_to.ensures)
