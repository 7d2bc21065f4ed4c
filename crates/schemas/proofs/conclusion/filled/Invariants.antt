use Rattle.std.proofs.Common.{◌≡◌, drop}
use Rattle.labels.specs.Labels.{filled}
use Rattle.schemas.proofs.conclusion.filled.Given as goal

abbrev pub invariant-loop-c : goal.invariant-loop-c
invariant-loop-c l = filled l.all (drop l.c-index l.added) ≡ filled l.row l.added
