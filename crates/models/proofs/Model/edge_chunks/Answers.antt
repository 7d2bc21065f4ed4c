use Rattle.std.proofs.Common.{sym, subst}
use Rattle.models.specs.Items.{AreEdges}
use Rattle.models.proofs.ChunkFacts.{are_edges}
use Rattle.models.proofs.Model.edge_chunks.Goals as goal

pub returns : goal.returns
returns c = subst (AreEdges c.args.self.now.edges.now) (sym c.as_chunks.ensures.front) (are_edges c.args.self.now.edges.now)
