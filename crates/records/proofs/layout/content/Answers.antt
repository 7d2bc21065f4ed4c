use Rattle.std.proofs.Common.{◌≡◌, ◌-◌, ◌≤◌, length, rules, arith, refl, sym, ap, ◌∙◌, subst}
use Rattle.file_bytes.specs.Bytes.{word, field}
use Rattle.file_bytes.proofs.Parts.{field_part}
use Rattle.records.specs.Kinds.{CanHave}
use Rattle.records.specs.Records.{size_at, marks_at}
use Rattle.records.proofs.Bodies.{body_part, part_front, part_back}
use Rattle.records.proofs.layout.content.Goals as goal

pub returns-in-Line : goal.returns-in-Line
returns-in-Line c =
    let f = c.args.rest.now in
    let (few, even) = subst (λ kind. CanHave kind c.word-size.result) c.in-Line.is (c.if-not-can_have.ensures.0 refl) in
    let room : 12 ≤ size_at f 0 = rw (sym c.word-size.ensures) few in
    let body = body_part f c.in_ok-body.body.now c.word-size.result c.word-size.ensures c.in_ok-body.ensures.lookup.0.2 in
    let front = c.split_at.ensures.front ∙ part_front f 4 (size_at f 0) 12 c.in_ok-body.body.now body room in
    let back = c.split_at.ensures.back ∙ part_back f 4 (size_at f 0) 12 c.in_ok-body.body.now body room in
    (search rules, search rules, room, rw (sym c.word-size.ensures) even, front, back)

pub returns-in-CloseInhabited : goal.returns-in-CloseInhabited
returns-in-CloseInhabited c =
    let f = c.args.rest.now in
    let (few, even) = subst (λ kind. CanHave kind c.word-size.result) c.in-CloseInhabited.is (c.if-not-can_have.ensures.0 refl) in
    let room : 8 ≤ size_at f 0 = rw (sym c.word-size.ensures) few in
    let body = body_part f c.in_ok-body.body.now c.word-size.result c.word-size.ensures c.in_ok-body.ensures.lookup.0.2 in
    let front = c.split_at-in-CloseInhabited.ensures.front ∙ part_front f 4 (size_at f 0) 8 c.in_ok-body.body.now body room in
    let lists = c.split_at-in-CloseInhabited.ensures.back ∙ part_back f 4 (size_at f 0) 8 c.in_ok-body.body.now body room in
    let counted : field c.split_at-in-CloseInhabited.result.0.now 3 ≡ word f 10 = ap (λ b. field b 3) front ∙ field_part f 4 8 3 (omega arith) in
    let marks : c.min.result ≡ marks_at f 0 = omega (arith, counted, c.field.ensures, c.min.ensures, ap length lists, c.in_ok-body.ensures.lookup.0.3) in
    let within : marks_at f 0 ≤ size_at f 0 - 8 = omega arith in (
      search rules,
      search rules,
      room,
      rw (sym c.word-size.ensures) even,
      front,
      c.split_at-in-CloseInhabited-2.ensures.front ∙ rw marks (part_front f 12 (size_at f 0 - 8) (marks_at f 0) c.split_at-in-CloseInhabited.result.1.now lists within),
      c.split_at-in-CloseInhabited-2.ensures.back ∙ rw marks (part_back f 12 (size_at f 0 - 8) (marks_at f 0) c.split_at-in-CloseInhabited.result.1.now lists within),
    )
