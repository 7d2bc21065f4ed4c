use Rattle.models.proofs.PartFacts.{part_of}
use Rattle.models.proofs.form.Formed.edges_of.Goals as goal

pub returns-then-name-lt-ROLE_NAMES : goal.returns-then-name-lt-ROLE_NAMES
returns-then-name-lt-ROLE_NAMES c =
    let f = c.args.self.now in
    part_of f.model.now.edges.now c.args.name _ (f.parted c.args.name c.if-name-lt-ROLE_NAMES.true) _ c.edge_chunks.ensures
