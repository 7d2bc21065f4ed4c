use Rattle.std.proofs.Common.{◌≡◌, ◌≤◌, ◌&&◌, ◌||◌, eqb}
use Rattle.bits.specs.Among.{among}
use Rattle.bits.specs.Below.{some_below}
use Rattle.bits.specs.Bits.{has}
use Rattle.labels.specs.Labels.{Row}
use Rattle.vocabulary.specs.Vocabularies.{theory}
use Rattle.schemas.specs.House.{gives}
use Rattle.role_rules.proofs.neighbour.given.Given as goal

abbrev pub invariant-loop-d : goal.invariant-loop-d
invariant-loop-d l =
    let t = theory l.at.vocabulary.now in
    let it = l.d-iterator in
    (it.row ≡ l.at.label.now) × (it.from ≤ 1024)
    × Row l.row (λ k. (eqb l.c k || among t.axioms k) || some_below it.from (λ d. has l.at.label.now d && gives t l.r d k))
