use Rattle.std.proofs.Common.{refl, rules}
use Rattle.vocabulary.specs.Vocabularies.{theory}
use Rattle.models.specs.Judging.{RefusedAs, misses_axiom, point_misses, Satisfied}
use Rattle.models.proofs.JudgingFacts.{axiom_missed, point_missed, satisfied, judged_by}
use Rattle.models.proofs.judge.Goals as goal

pub returns-in-Some-first_missed-clause-judged : goal.returns-in-Some-first_missed-clause-judged
returns-in-Some-first_missed-clause-judged c room =
    judged_by (theory c.args.vocabulary.now) c.args.model.now c.in_ok-formed.formed.model.now _ _ _
    (λ roles cs listed m.
    RefusedAs roles cs listed c.args.label.now m c.args.rows.now c.evaluate.new.rows 14 c.in-Some-first_missed.i)
    c.role_axioms.ensures c.concepts-concepts.ensures c.axioms.ensures (search rules)
    (λ o. misses_axiom refl
    (axiom_missed _ c.in_ok-formed.formed.formed _ _ _ _ _ _ c.in_default.ensures (c.evaluate.ensures o) _
    c.in-Some-first_missed.ensures))
    c.args.vocabulary.now.concepts.ordered

pub returns-in-Some-least_missed-clause-judged : goal.returns-in-Some-least_missed-clause-judged
returns-in-Some-least_missed-clause-judged c room =
    judged_by (theory c.args.vocabulary.now) c.args.model.now c.in_ok-formed.formed.model.now _ _ _
    (λ roles cs listed m.
    RefusedAs roles cs listed c.args.label.now m c.args.rows.now c.evaluate.new.rows 15 c.in-Some-least_missed.c)
    c.role_axioms.ensures c.concepts-concepts.ensures c.axioms.ensures (search rules)
    (λ o. point_misses refl
    (point_missed _ c.in_ok-formed.formed.formed _ _ _ _ _ _ c.in_default.ensures (c.evaluate.ensures o) _
    c.in_default-first_missed.ensures c.in-Some-least_missed.ensures))
    c.args.vocabulary.now.concepts.ordered

pub returns-clause-judged : goal.returns-clause-judged
returns-clause-judged c room =
    judged_by (theory c.args.vocabulary.now) c.args.model.now c.in_ok-formed.formed.model.now _ _ _
    (λ roles cs listed m. Satisfied roles cs listed c.args.label.now m c.args.rows.now c.evaluate.new.rows)
    c.role_axioms.ensures c.concepts-concepts.ensures c.axioms.ensures (search rules)
    (λ o. satisfied _ c.in_ok-formed.formed.formed _ _ _ _ _ _ c.in_default.ensures (c.evaluate.ensures o)
    c.in_default-first_missed.ensures c.in_default-least_missed.ensures)
    c.args.vocabulary.now.concepts.ordered
