use Rattle.std.proofs.Common.{sym, ap}
use Rattle.records.proofs.Offsets.{files_are_their_records}
use Rattle.records.proofs.Reading.{given_count}
use Rattle.records.proofs.reader.count.Goals as goal

pub returns : goal.returns
returns c =
    let (frames, given, few) = c.count.ensures.ran in
    let (file, at) = c.new.ensures in
    record { counted = rw (few, sym (ap (λ f. f.now) file)) (given_count c.new.result frames given at); law = files_are_their_records }
