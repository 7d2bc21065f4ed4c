use Rattle.std.proofs.Common.{◌≡◌, ℕ, ◌*◌, ◌≤◌, get_or}
use Rattle.register.specs.References.{Ordered}
use Rattle.logic.specs.Concepts.{parts}
use Rattle.models.specs.Models.{described}
use Rattle.models.specs.Evaluation.{RowsHold}
use Rattle.models.proofs.form.Formed.fill_all.Given as goal

abbrev pub invariant-loop-c : goal.invariant-loop-c
invariant-loop-c l =
    (Ordered parts l.concepts → RowsHold (described l.self.model.now) l.concepts l.rows l.c)
    × ((i : ℕ) → 4 * l.c ≤ i → get_or l.rows i 0 ≡ get_or l.initial.rows i 0)
