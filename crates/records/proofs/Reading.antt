-- What a reader gives.
use Rattle.std.proofs.Common.{◌≡◌, ℕ, ◌≤◌, List, [], ◌∷◌, length, map, Some, sym, subst}
use Rattle.std.proofs.lemmas.List.{length-map}
use Rattle.std.specs.Iterator.{Drains}
use Rattle.records.specs.declared.reader.Reader.{Reader}
use Rattle.records.specs.declared.record.Frame.{Frame}
use Rattle.records.specs.Records.{Next}
use Rattle.records.specs.Files.{Lies, ended, behind, HasRecords}

-- where frames begin
abbrev pub offsets : List Frame → List ℕ
offsets frames = map (λ frame. frame.offset) frames

-- the frames that a reader gives before it ends
abbrev pub Given : Reader → List Frame → Type 0
Given r frames = Drains (λ r frame s. Next r s frame) r frames

-- a frame before the others
one_frame : (r s : Reader) (frame : Frame) (is : List ℕ) → Next r s (Some frame) → Lies s.file.now s.at is → Lies r.file.now r.at (frame.offset ∷ is)
one_frame r s frame is (below, offset, kind, content, after) rest =
    rw offset (behind {is = is} below (subst (λ (x : Reader). Lies x.file.now x.at is) after rest))

-- they are the records from the reader's place on
pub given_lie : (r : Reader) (frames : List Frame) → Given r frames → Lies r.file.now r.at (offsets frames)
given_lie r [] (u, (t, same, (past, end))) = ended (subst (λ (x : Reader). length x.file.now ≤ x.at) (sym same) past)
given_lie r (frame ∷ frames) (u, (t, (s, step, run), last)) = one_frame r s frame (offsets frames) step (given_lie s frames (u, (t, run, last)))

pub given_count : (r : Reader) (frames : List Frame) → Given r frames → r.at ≡ 0 → HasRecords r.file.now (length frames)
given_count r frames given start = (offsets frames, subst (λ (i : ℕ). Lies r.file.now i (offsets frames)) start (given_lie r frames given), sym (length-map frames _))
