use Rattle.models.specs.Items.{source, target}
use Rattle.models.proofs.PartFacts.{chunk_edge}
use Rattle.models.proofs.TableFacts.{TabledTo}
use Rattle.models.proofs.pairs.Pairs.of.Given as goal

abbrev pub invariant-loop-bytes : goal.invariant-loop-bytes
invariant-loop-bytes l = TabledTo 256 (λ k. source l.role (chunk_edge l.edges k)) (λ k. target l.role (chunk_edge l.edges k)) l.bytes-index l.table
