-- When two concepts can be paired as mates.
use Rattle.std.specs.Prelude.{◌≡◌, ℕ, Bool, true, false, cond, ◌&&◌, ◌||◌, ◌↔◌, List, Some, None, Option, is_none, ◌==◌}
use Rattle.logic.specs.declared.concept.Concept.{Concept}
use Rattle.logic.specs.declared.concept.Concept.TheVariants.{Top, Bottom, Name, NotName, And, Or, Only, Exists}
use Rattle.logic.specs.Concepts.{At, tag, first_number, second_number}
use Rattle.logic.specs.Theories.{Theory, concept_at, AreMates, are_mates}

-- the two are written as each other's negation, by mates where they have parts
pub data Negates (mates : ℕ → Option ℕ) : Concept → Concept → Type 0 where
  top_bottom : Negates mates Top Bottom
  name_not_name : {a : ℕ} → Negates mates (Name a) (NotName a)
  and_or : {a b a' b' : ℕ} → AreMates mates a a' → AreMates mates b b'
      → Negates mates (And a b) (Or a' b')
  only_exists : {r a a' : ℕ} → AreMates mates a a' → Negates mates (Only r a) (Exists r a')
  swapped : {j k : Concept} → Negates mates j k → Negates mates k j

-- concepts c and d stand, and negate each other by mates
pub record Opposed (concepts : List Concept) (mates : ℕ → Option ℕ) (c d : ℕ) : Type 0 where
  pub this : Concept
  pub that : Concept
  pub this_at : At concepts c this
  pub that_at : At concepts d that
  pub negates : Negates mates this that

-- c and d can be paired: both stand, neither has a mate, and they negate each other
pub record Pairable (t : Theory) (c d : ℕ) : Type 0 where
  pub first_is_single : t.mates c ≡ None
  pub second_is_single : t.mates d ≡ None
  pub opposed : Opposed t.concepts t.mates c d

-- the mates once c and d are paired
abbrev pub joined : (ℕ → Option ℕ) → ℕ → ℕ → ℕ → Option ℕ
joined mates c d x = cond (x == c) (Some d) (cond (x == d) (Some c) (mates x))

-- The same as a test. k is written as the negation of j, where the tag of j is the smaller one:
-- tags 0 and 1; tags 2 and 3 with one name; tags 4 and 5 whose first parts are mates and whose
-- second parts are mates; tags 6 and 7 with one role whose parts are mates
abbrev pub negates : (ℕ → Option ℕ) → Concept → Concept → Bool
negates mates j k =
    cond (tag j == 0) (tag k == 1)
    (cond (tag j == 2) (tag k == 3 && first_number j == first_number k)
    (cond (tag j == 4)
    (tag k == 5 && (are_mates mates (first_number j) (first_number k)
    && are_mates mates (second_number j) (second_number k)))
    (cond (tag j == 6)
    (tag k == 7 && (first_number j == first_number k
    && are_mates mates (second_number j) (second_number k)))
    false)))

abbrev pub both_negate : (ℕ → Option ℕ) → Option Concept → Option Concept → Bool
both_negate mates None k = false
both_negate mates (Some j) None = false
both_negate mates (Some j) (Some k) = negates mates j k || negates mates k j

-- whether c and d can be paired
abbrev pub pairable : Theory → ℕ → ℕ → Bool
pairable t c d =
    is_none (t.mates c) && (is_none (t.mates d)
    && both_negate t.mates (concept_at t c) (concept_at t d))

-- the test is right, both ways
abbrev pub PairableIsDecided : Type 0
PairableIsDecided = (t : Theory) (c d : ℕ) → pairable t c d ≡ true ↔ Pairable t c d
