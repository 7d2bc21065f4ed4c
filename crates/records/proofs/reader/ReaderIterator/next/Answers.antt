use Rattle.std.proofs.Common.{◌≡◌, ℕ, ◌+◌, ◌∙◌, sym, refl, ap, arith}
use Rattle.std.proofs.lemmas.List.{take_rest}
use Rattle.records.specs.Records.{end_of}
use Rattle.records.proofs.Rest.{same_kind, same_end, rest_content}
use Rattle.records.proofs.reader.ReaderIterator.next.Goals as goal

pub returns-clause-steps : goal.returns-clause-steps
returns-clause-steps c =
    let f = c.args.self.now.file.now in
    let i = c.args.self.now.at in
    let rest = take_rest f i in
    let kind = c.kind_number.ensures ∙ sym (same_kind _ f 0 i (omega arith) (omega arith) rest) in
    let end = same_end _ f 0 i (omega arith) (omega arith) rest in
    let next : i + c.extent.result ≡ end_of f i = omega (arith, c.extent.ensures, end) in (
      c.if-at-self.false,
      refl,
      kind,
      rw c.ok_or.ensures.value (rest_content f _ i (omega arith) rest c.content.result c.content.ensures),
      ap (λ (n : ℕ). record c.args.self.now { at = n }) next,
    )
