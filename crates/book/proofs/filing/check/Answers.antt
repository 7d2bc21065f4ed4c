use Rattle.std.proofs.Common.{◌≡◌, sym, refl, ap, ◌∙◌}
use Rattle.std.proofs.lemmas.Result.{err_from_is_err_and}
use Rattle.vocabulary.specs.Vocabularies.{theory}
use Rattle.book.specs.Lines.{citing}
use Rattle.book.proofs.Admitting.{checks_are_right, all_passed}
use Rattle.book.proofs.Refusing.{named_refused, rising_refused}
use Rattle.book.proofs.filing.check.Goals as goal

pub returns-in_err-reading : goal.returns-in_err-reading
returns-in_err-reading g c =
    let p = err_from_is_err_and c.from_residual-in_err-reading.result c.from_residual-in_err-reading.ensures.1 in
    rw (p.1, p.2) (named_refused (g.B.Bank.calculus c.args.bank.now) (theory c.args.v.now) c.args.lines.now c.args.room c.args.f.now
    c.in_ok-check_range.ensures _ c.in_err-reading.ensures)

pub returns-in_err-check_rising : goal.returns-in_err-check_rising
returns-in_err-check_rising g c =
    let p = err_from_is_err_and c.from_residual-in_err-check_rising.result c.from_residual-in_err-check_rising.ensures.1 in
    rw (p.1, p.2) (rising_refused (g.B.Bank.calculus c.args.bank.now) (theory c.args.v.now) c.args.lines.now c.args.room c.args.f.now
    c.in_ok-check_range.ensures _ c.in_ok-reading.ensures.0 c.if-lines-room.false
    c.in_ok-reading.reading.falling c.in_ok-reading.ensures.1.0 c.in_err-check_rising.ensures)

pub returns : goal.returns
returns g c =
    let k = g.B.Bank.calculus c.args.bank.now in
    let f = c.args.f.now in
    let cites : c.first-cited.result ≡ citing (k.cites f.rule) f.m f.n = c.first-cited.ensures ∙ ap (λ n. citing n f.m f.n) c.cites.ensures in (
      (checks_are_right k (theory c.args.v.now) c.args.lines.now c.args.room f).0 (all_passed k (theory c.args.v.now) c.args.lines.now c.args.room f
          c.in_ok-check_range.ensures c.in_ok-reading.ensures.0 c.if-lines-room.false c.in_ok-reading.reading.falling c.in_ok-reading.ensures.1.0
          c.in_ok-check_rising.ensures c.in_ok-reading.reading.row c.in_ok-reading.ensures.1.1 (sym c.if-not-applies.ensures) (sym c.in_default.ensures)),
      rw (cites, c.in_ok-reading.ensures.1.1) refl,
    )
