-- What the theories keep that filing and pairing make.
use Rattle.std.specs.Prelude.{ℕ, ◌<◌, ◌≤◌, length}
use mathlib.Core.List.{Memᴰ}
use Rattle.register.specs.References.{Ordered}
use Rattle.logic.specs.declared.concept.Concept.{Concept}
use Rattle.logic.specs.declared.concept.Concept.TheVariants.{Top, Bottom, Name, NotName, And, Or, Only, Exists}
use Rattle.logic.specs.Concepts.{parts, At}
use Rattle.logic.specs.Roles.{AllNameBelow}
use Rattle.logic.specs.Theories.{Theory, AreMates}
use Rattle.logic.specs.Pairing.{Opposed}

-- names are 0 to 1,023 and roles 0 to 127
abbrev pub InRange : Concept → Type 0
InRange Top = Unit {0}
InRange Bottom = Unit {0}
InRange (Name a) = a < 1024
InRange (NotName a) = a < 1024
InRange (And c d) = Unit {0}
InRange (Or c d) = Unit {0}
InRange (Only r c) = r < 128
InRange (Exists r c) = r < 128

-- What every theory keeps that is made by filing and pairing alone, within the limits of a docket.
pub record Kept (t : Theory) : Type 0 where
  -- at most 256 role axioms, of the roles 0 to 127
  pub few_role_axioms : length t.role_axioms ≤ 256
  pub role_names : AllNameBelow 128 t.role_axioms
  -- at most 1,024 concepts, each made of earlier ones
  pub few_concepts : length t.concepts ≤ 1024
  pub ordered : Ordered parts t.concepts
  pub in_range : (c : ℕ) (k : Concept) → At t.concepts c k → InRange k
  -- mates stand and negate each other by mates, and each is the other's mate
  pub opposed : (c d : ℕ) → AreMates t.mates c d → Opposed t.concepts t.mates c d
  pub each_other : (c d : ℕ) → AreMates t.mates c d → AreMates t.mates d c
  -- at most 256 axioms, each a standing concept
  pub few_axioms : length t.axioms ≤ 256
  pub axioms_stand : (c : ℕ) → Memᴰ c t.axioms → c < length t.concepts
