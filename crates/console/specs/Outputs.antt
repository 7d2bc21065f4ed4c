-- What a program writes.
use Rattle.std.specs.Prelude.{◌≡◌, ℕ, ◌≤◌, List, ◌++◌, length, take, Ok, Err, Option, Result}
use Rattle.std.specs.Io.KnownBytes.{Keeps, Appends}
use Rattle.console.specs.declared.failure.Failure.{Failure}
use Rattle.console.specs.declared.failure.Failure.TheVariants.{Io, Notices}

-- what was written is a beginning of the text, maybe none of it and maybe all
abbrev pub AppendsFront : (before after : Option (List ℕ)) → List ℕ → Type 0
AppendsFront before after text = (n : ℕ) × (n ≤ length text) × Appends before after (take n text)

-- of the text, all but its end was written, which is held back
abbrev pub AppendsAllBut : (before after : Option (List ℕ)) → (text held : List ℕ) → Type 0
AppendsAllBut before after text held =
    (written : List ℕ) × Appends before after written × (written ++ held ≡ text)

-- The text and the notice are written; there is no want of memory. Where the text is not
-- written, a beginning of it is, and nothing of the notice; where the notice is not written, the
-- whole text is, and a beginning of the notice.
abbrev pub Printed : (text notice : List ℕ) → (before after notes notes_after : Option (List ℕ))
    → Result (Unit {0}) Failure → Type 0
Printed text notice before after notes notes_after (Ok u) =
    Appends before after text × Appends notes notes_after notice
Printed text notice before after notes notes_after (Err (Io e)) =
    AppendsFront before after text × Keeps notes notes_after
Printed text notice before after notes notes_after (Err (Notices e)) =
    Appends before after text × AppendsFront notes notes_after notice
Printed text notice before after notes notes_after (Err x) = ⊥
