-- What every docket that is reached keeps.
use Rattle.std.specs.Prelude.{◌≤◌}
use Rattle.register.specs.Registers.{room}
use Rattle.logic.specs.Keeping.{Kept}
use Rattle.vocabulary.specs.Vocabularies.{theory}
use Rattle.docket.specs.declared.Docket.{Docket}
use Rattle.docket.specs.Runs.{Banks, Reached}

-- THE THEORY IS KEPT in any docket that is reached, whatever banks were lent, and there is room for
-- at most 1,024 concepts
abbrev pub VocabulariesAreKept : Type 0
VocabulariesAreKept = (b : Banks) (d : Docket) → Reached b d
    → Kept (theory d.vocabulary) × (room d.vocabulary.concepts ≤ 1024)
