use Rattle.std.proofs.Common.{◌≡◌, eqb, ap, ◌∙◌, arith, rules}
use Rattle.std.proofs.lemmas.Bool.{eq-eqb, ne_eqb}
use Rattle.models.specs.Items.{mark_at, mark_element, mark_name}
use Rattle.models.proofs.WalkFacts.{walk_none, walk_insert, walk_skip}
use Rattle.models.proofs.form.Formed.walk_named.Goals as goal
use Rattle.models.proofs.form.Formed.walk_named.Goals.{then-mark-name, else-mark-name}

pub loop-bytes-init : goal.loop-bytes-init
loop-bytes-init c =
    let ms = c.args.self.now.model.now.marks.now in
    walk_none _ _ _ (λ k. eqb (mark_name ms k) c.args.name) (mark_element ms) c.clear.ensures

pub insert-requires : goal.insert-requires
insert-requires c =
    let formed = c.args.self.now.formed in
    let are = c.mark_chunks-bytes-items.ensures in
    let f = formed.sized.few_elements in
    let e = (formed.good_marks c.loop-bytes.bytes-index (omega (arith, are.many))).element_in_range in
    (search rules, omega (arith, ap (λ m. m.element) (c.from-mark.ensures ∙ are.reads c.loop-bytes.bytes-index _ (omega (arith, are.many)))))

pub loop-bytes-preserved : goal.loop-bytes-preserved
loop-bytes-preserved c =
    let ms = c.args.self.now.model.now.marks.now in
    let are = c.mark_chunks-bytes-items.ensures in
    let at : c.from-mark.result ≡ mark_at ms c.loop-bytes.bytes-index = c.from-mark.ensures ∙ are.reads c.loop-bytes.bytes-index _ (omega (arith, are.many)) in
    let name = ap (λ m. m.name) at in
    elim c.if-mark-name.branch [
      | then-mark-name w ↦ rw w.rows-is (walk_insert _ _ _ _ (λ k. eqb (mark_name ms k) c.args.name) (mark_element ms) _ _ c.loop-bytes.invariant (eq-eqb _ _ (omega (arith, name))) (ap (λ m. m.element) at) w.insert.ensures)
      | else-mark-name w ↦ rw w.rows-is (walk_skip _ _ _ (λ k. eqb (mark_name ms k) c.args.name) (mark_element ms) _ c.loop-bytes.invariant (ne_eqb _ _ (omega (arith, name))))
    ]
