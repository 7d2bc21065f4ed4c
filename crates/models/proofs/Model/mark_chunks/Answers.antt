use Rattle.std.proofs.Common.{sym, subst}
use Rattle.models.specs.Items.{AreMarks}
use Rattle.models.proofs.ChunkFacts.{are_marks}
use Rattle.models.proofs.Model.mark_chunks.Goals as goal

pub returns : goal.returns
returns c = subst (AreMarks c.args.self.now.marks.now) (sym c.as_chunks.ensures.front) (are_marks c.args.self.now.marks.now)
