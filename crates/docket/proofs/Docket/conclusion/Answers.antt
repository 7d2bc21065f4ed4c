use Rattle.std.proofs.Common.{length, take, drop, sym, ap, ◌∙◌, subst}
use Rattle.std.proofs.lemmas.List.{take_at, drop_at}
use Rattle.bits.specs.Bits.{has}
use Rattle.labels.specs.Labels.{Row, absent_at}
use Rattle.vocabulary.specs.Vocabularies.{theory}
use Rattle.docket.specs.Conclusions.{asked_members, asked_label}
use Rattle.docket.proofs.Concluding.{conclusion_clears}
use Rattle.docket.proofs.Docket.conclusion.Goals as goal

pub returns : goal.returns
returns g c =
    let k = g.B.Bank.calculus c.args.bank.now in
    let f = c.args.asked.now in
    let t = theory c.args.self.now.vocabulary in
    let r = c.conclusion.result in
    let sixteen = c.conclusion.ensures.0 in
    let written = c.write_row.ensures in
    let reading = c.read-reading.ensures in
    let is : Row r (k.concludes f.rule t f.on (has (asked_label f)) f.index) = rw (← reading.row, ← c.in_ok-index.ensures.1) c.conclusion.ensures in (
      conclusion_clears k c.args.self.now f (length c.args.memory.now) c.in_ok-index.ensures.0 c.read-reading.result.absent c.read-reading.result.falling c.read-reading.result.row
          (reading.absent ∙ ap (λ n. absent_at n (asked_members f)) c.len.ensures) reading.falling reading.row c.in_ok-check_standing.ensures c.in_ok-check_rising.ensures (sym c.if-not-applies.ensures),
      subst (λ x. Row x (k.concludes f.rule t f.on (has (asked_label f)) f.index)) (sym (ap (take 16) written ∙ take_at r _ 16 sixteen)) is,
      ap (drop 16) written ∙ drop_at r _ 16 sixteen,
    )
