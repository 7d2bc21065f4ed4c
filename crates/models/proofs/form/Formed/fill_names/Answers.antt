use Rattle.std.proofs.Common.{◌≡◌, ◌&&◌, eqb, sym, subst, ap, ◌∙◌, ◌<◌, arith, rules}
use Rattle.models.specs.Items.{mark_at, mark_element, mark_name, marks_in}
use Rattle.bits.specs.Below.{some_below}
use Rattle.models.proofs.TableFacts.{TabledTo, table_none, table_insert}
use Rattle.models.proofs.form.Formed.fill_names.Goals as goal

pub loop-bytes-init : goal.loop-bytes-init
loop-bytes-init c =
    let ms = c.args.self.now.model.now.marks.now in
    subst (TabledTo 1024 (mark_name ms) (mark_element ms) 0) (sym c.requires) (table_none 1024 (mark_name ms) (mark_element ms) 4096)

pub insert-requires : goal.insert-requires
insert-requires c =
    let formed = c.args.self.now.formed in
    let are = c.mark_chunks-bytes-items.ensures in
    let f = formed.sized.few_elements in
    let good = formed.good_marks c.loop-bytes.bytes-index (omega (arith, are.many)) in
    let element = good.element_in_range in
    let name = good.name_in_range in
    let at = c.from-mark.ensures ∙ are.reads c.loop-bytes.bytes-index _ (omega (arith, are.many)) in
    (let small : c.from-mark.result.name < 1024 = omega (arith, ap (λ m. m.name) at) in search rules, omega (arith, ap (λ m. m.element) at))

pub loop-bytes-preserved : goal.loop-bytes-preserved
loop-bytes-preserved c =
    let ms = c.args.self.now.model.now.marks.now in
    let are = c.mark_chunks-bytes-items.ensures in
    let i = c.loop-bytes.bytes-index in
    let at : c.from-mark.result ≡ mark_at ms i = c.from-mark.ensures ∙ are.reads i _ (omega (arith, are.many)) in
    table_insert 1024 (mark_name ms) (mark_element ms) i _ _ _ _ c.loop-bytes.invariant (ap (λ m. m.name) at) (ap (λ m. m.element) at) c.insert.ensures

pub returns : goal.returns
returns c = λ a e h l.
    let ms = c.args.self.now.model.now.marks.now in
    let all : c.loop-bytes.bytes-index ≡ marks_in ms = omega (arith, c.mark_chunks-bytes-items.ensures.many) in
    c.loop-bytes.invariant a e h l ∙ ap (λ i. some_below i (λ k. eqb (mark_name ms k) a && eqb (mark_element ms k) e)) all
