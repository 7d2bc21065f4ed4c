use Rattle.std.proofs.Common.{◌≡◌, ◌+◌, ◌-◌, ◌<◌, ◌≤◌, length, drop, get_or, replicate}
use Rattle.file_bytes.specs.Bytes.{numbers}
use Rattle.labels.specs.Labels.{absent, falls, filled}
use Rattle.labels.specs.Least.{least}
use Rattle.labels.proofs.members.read.Given as goal

abbrev pub invariant-loop-i : goal.invariant-loop-i
invariant-loop-i l = record {
  within : l.i-iterator.count ≤ length (numbers l.members);
  left : numbers l.i-iterator.iter.rest.now ≡ drop l.i-iterator.count (numbers l.members);
  absent : l.absent ≡ least l.i-iterator.count (absent l.count (numbers l.members));
  falling : l.falling ≡ least l.i-iterator.count (falls (numbers l.members));
  size : length l.row ≡ 16;
  filled : filled l.row (numbers l.i-iterator.iter.rest.now) ≡ filled (replicate 16 0) (numbers l.members);
  first : l.i-iterator.count ≡ 0 → l.floor ≡ 0;
  later : 0 < l.i-iterator.count → l.floor ≡ get_or (numbers l.members) (l.i-iterator.count - 1) 0 + 1;
}
