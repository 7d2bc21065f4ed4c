use Rattle.std.proofs.Common.{◌≡◌, ◌/◌, ◌%◌, T, sym, ap, ◌∙◌, subst, arith, eqb→eq}
use Rattle.std.proofs.lemmas.Bool.{false_from_ne_true}
use Rattle.bits.specs.Bits.{bit}
use Rattle.bits.proofs.Tests.{and_out}
use Rattle.bits.proofs.SomeBelow.{some_there}
use Rattle.rows.proofs.RowFacts.{row_written}
use Rattle.models.specs.Items.{marked, marks_in, mark_name}
use Rattle.models.proofs.WalkFacts.{row_as}
use Rattle.models.proofs.form.Formed.copy_named.Goals as goal

pub returns-then-name-lt-NAMES : goal.returns-then-name-lt-NAMES
returns-then-name-lt-NAMES c = row_written _ _ _ _ _ c.write.ensures (λ e l.
    ap (λ w. bit w (e % 64)) (c.row.ensures.words (e / 64) (omega arith)) ∙ c.requires.named c.args.name e c.if-name-lt-NAMES.true l)

pub returns-else-name-lt-NAMES : goal.returns-else-name-lt-NAMES
returns-else-name-lt-NAMES c =
    let self = c.args.self.now in
    let ms = self.model.now.marks.now in
    row_as _ _ _ _ (λ e. marked ms c.args.name e) c.clear.ensures (λ e l. sym (false_from_ne_true (marked ms c.args.name e) (λ t.
    let (i, h, u) = some_there (marks_in ms) _ (subst T (sym t) tt) in
    let name : mark_name ms i ≡ c.args.name = eqb→eq _ _ (and_out _ _ u).0 in
    let range = (self.formed.good_marks i h).name_in_range in
    let past = c.if-name-lt-NAMES.false in
    omega arith)))
