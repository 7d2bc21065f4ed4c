use Rattle.std.proofs.Common.{◌≡◌, ℕ, ◌&&◌, ◌||◌, eqb, length, None, Some, sym, ap, ◌∙◌, refl, arith}
use Rattle.bits.specs.Among.{among}
use Rattle.bits.specs.Bits.{has}
use Rattle.labels.specs.Labels.{next_from}
use Rattle.vocabulary.specs.Vocabularies.{theory}
use Rattle.schemas.specs.House.{gives}
use Rattle.role_rules.specs.declared.members.Members.{Members}
use Rattle.role_rules.proofs.Walking.{walk_starts, walk_goes_on, walk_ends, next_is, what_stands}
use Rattle.role_rules.proofs.neighbour.given.Goals as goal

pub loop-d-init : goal.loop-d-init
loop-d-init c =
    let t = theory c.args.at.now.vocabulary.now in
    let g = λ (k j : ℕ). has c.args.at.now.label.now j && gives t c.args.r j k in
    rw c.into_iter-d-iterator.ensures.into_iter_gives (
      refl,
      omega arith,
      walk_starts c.axiom_row-row.result c.insert.new.row c.args.c (among t.axioms) g
          c.axiom_row-row.ensures.sixteen (omega arith) c.axiom_row-row.ensures.exact c.insert.ensures,
    )

pub loop-d-preserved : goal.loop-d-preserved
loop-d-preserved c =
    let t = theory c.args.at.now.vocabulary.now in
    let x = c.args.at.now.label.now in
    let it = c.loop-d.d-iterator in
    let (step, same, on) = c.in-Some.ensures.steps in
    let (here, small, before) = c.loop-d.invariant in
    let found : next_from x it.from ≡ Some c.in-Some.d = ap (λ r. next_from r it.from) (sym here) ∙ sym step in
    let n = next_is x it.from c.in-Some.d found in
    rw on (
      ap (λ (m : Members). m.row) same ∙ here,
      omega arith,
      walk_goes_on x it.from c.loop-d.row c.give.new.row c.in-Some.d (λ k. eqb c.args.c k || among t.axioms k)
          (λ j k. gives t c.args.r j k) c.give.array_long found before c.give.ensures,
    )

pub returns : goal.returns
returns c =
    let t = theory c.args.at.now.vocabulary.now in
    let x = c.args.at.now.label.now in
    let it = c.loop-d.d-iterator in
    let (here, small, before) = c.loop-d.invariant in
    let found : next_from x it.from ≡ None = ap (λ r. next_from r it.from) (sym here) ∙ sym c.in-None.ensures.steps.0 in
    let start = λ (k : ℕ). eqb c.args.c k || among t.axioms k in
    let members = c.into_iter-d-iterator in
    let long : length members.result.row ≡ 16 = omega arith in
    let sixteen : length x ≡ 16 = ap (λ m. length m.row) (sym members.ensures.into_iter_gives) ∙ long in
    what_stands t x c.args.r c.loop-d.row start sixteen
    (walk_ends x it.from c.loop-d.row start (λ j k. gives t c.args.r j k) small found before)
