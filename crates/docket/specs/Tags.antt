-- The numbers of the tags, 0 to 7.
use Rattle.std.specs.Prelude.{◌≡◌, ℕ, ◌<◌, Ok, Err, Result}
use Rattle.docket.specs.declared.tag.Tag.{Tag}
use Rattle.docket.specs.declared.tag.Tag.TheVariants.{Top, Bottom, Name, NotName, And, Or, Only, Exists}
use Rattle.docket.specs.declared.tag.UnknownTag.{UnknownTag}

abbrev pub tag_number : Tag → ℕ
tag_number Top = 0
tag_number Bottom = 1
tag_number Name = 2
tag_number NotName = 3
tag_number And = 4
tag_number Or = 5
tag_number Only = 6
tag_number Exists = 7

-- a number is that of the tag, or of none
abbrev pub DecodesTag : ℕ → Result Tag UnknownTag → Type 0
DecodesTag n (Ok t) = tag_number t ≡ n
DecodesTag n (Err e) = (e.0 ≡ n) × (7 < n)
