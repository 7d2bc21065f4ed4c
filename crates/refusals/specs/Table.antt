-- The number and the place that each refusal is returned as. Every contract speaks of refusals
-- through this table.
use Rattle.std.specs.Prelude.{ℕ}
use Rattle.refusals.specs.declared.Refusal.{Refusal}
use Rattle.refusals.specs.declared.Refusal.TheVariants.{Malformed, Phase, Range, Absent, Full, Order, Unpaired, Inapplicable, Unlicensed, Closed, Outside, Model, RoleAxiom, Axiom, Point}

abbrev pub returned : Refusal → ℕ × ℕ
returned (Malformed offset) = (1, offset)
returned Phase = (2, 0)
returned (Range position) = (3, position)
returned (Absent position) = (4, position)
returned (Full capacity) = (5, capacity)
returned (Order position) = (6, position)
returned Unpaired = (7, 0)
returned (Inapplicable rule) = (8, rule)
returned (Unlicensed concept) = (9, concept)
returned (Closed claim) = (10, claim)
returned (Outside concept) = (11, concept)
returned (Model item) = (12, item)
returned (RoleAxiom index) = (13, index)
returned (Axiom index) = (14, index)
returned (Point concept) = (15, concept)
