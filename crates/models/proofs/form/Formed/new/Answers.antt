use Rattle.std.proofs.Common.{rules}
use Rattle.models.specs.Models.{Sized, not_sized, bad_mark, bad_edge}
use Rattle.models.proofs.form.Formed.new.Goals as goal

pub returns-then-not-is_sized : goal.returns-then-not-is_sized
returns-then-not-is_sized c = let n : Sized c.args.model.now → ⊥ = search rules in not_sized n

pub returns-in-Some : goal.returns-in-Some
returns-in-Some c = let s : Sized c.args.model.now = search rules in bad_mark s c.in-Some.ensures

pub returns-in-Some-first_bad_edge : goal.returns-in-Some-first_bad_edge
returns-in-Some-first_bad_edge c =
    let s : Sized c.args.model.now = search rules in
    bad_edge s c.in_default.ensures c.in-Some-first_bad_edge.ensures
