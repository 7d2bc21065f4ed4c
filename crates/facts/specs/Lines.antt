-- What a standing line says of its label.
use Rattle.std.specs.Prelude.{ℕ, ◌<◌, Bool, length}
use Rattle.bits.specs.Bits.{has}
use Rattle.logic.specs.Interpretations.{Interpretation}
use Rattle.logic.specs.Theories.{Theory, MeetsAxioms, Inhabits}
use Rattle.vocabulary.specs.Vocabularies.{theory}
use Rattle.book.specs.Lines.{label_of}
use Rattle.docket.specs.declared.Docket.{Docket}
use Rattle.docket.specs.Dockets.{lines}
use Rattle.docket.specs.Runs.{sound, Reached}

-- no finite interpretation that meets the axioms has an element in all of the concepts of X
abbrev pub Empty : Theory → (ℕ → Bool) → Type 0
Empty t X = (I : Interpretation) → MeetsAxioms I t → Inhabits I t X → ⊥

-- NO STANDING LINE'S LABEL IS INHABITED, in any docket that is reached with sound banks
abbrev pub LinesAreEmpty : Type 0
LinesAreEmpty = (d : Docket) → Reached sound d → (k : ℕ) → k < length (lines d)
    → Empty (theory d.vocabulary) (has (label_of (lines d) k))
