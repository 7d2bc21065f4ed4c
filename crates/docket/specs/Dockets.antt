-- What a docket holds, and how one is opened.
use Rattle.std.specs.Prelude.{◌≡◌, ℕ, ◌≤◌, true, false, ◌||◌, List, [], ◌∷◌, length, Some, None, Ok, Err, Option, Result, nat_lt}
use Rattle.std.specs.Borrow.{MutBor}
use Rattle.refusals.specs.declared.Refusal.{Refusal}
use Rattle.refusals.specs.Table.{returned}
use Rattle.refusals.specs.Checks.{when, first}
use Rattle.register.specs.Registers.{entries, room}
use Rattle.logic.specs.declared.concept.Concept.{Concept}
use Rattle.book.specs.declared.line.Line.{Line}
use Rattle.claims.specs.Claiming.{filed}
use Rattle.vocabulary.specs.Vocabularies.{concepts, New}
use Rattle.docket.specs.declared.Docket.{Docket}
use Rattle.docket.specs.declared.Unopened.{Unopened}
use Rattle.docket.specs.declared.phase.Phase.TheVariants.{Open}
use Rattle.docket.specs.declared.phase.Subject.{Subject}
use Rattle.docket.specs.Phases.{admits, after}

-- how many concepts stand
abbrev pub count : Docket → ℕ
count d = length (concepts d.vocabulary)

-- the lines that stand, by number
abbrev pub lines : Docket → List Line
lines d = entries d.book

-- a docket that was just opened: not sealed, nothing filed, nothing paired
pub record Fresh (d : Docket) : Type 0 where
  pub unsealed : d.phase ≡ Open
  pub nothing_said : New d.vocabulary
  pub no_line : lines d ≡ []
  pub no_claim : filed d.claims ≡ []
  pub concept_room : (1 ≤ room d.vocabulary.concepts) × (room d.vocabulary.concepts ≤ 1024)
  pub line_room : (1 ≤ room d.book) × (room d.book ≤ 4096)

-- what opening checks, in this order: the capacities n and m, and then memory for a concepts and b
-- lines
abbrev pub opening_checks : ℕ → ℕ → ℕ → ℕ → List (Option (ℕ × ℕ))
opening_checks n m a b =
    when (nat_lt n 1 || nat_lt 1024 n) (3, 0)
    ∷ when (nat_lt m 1 || nat_lt 4096 m) (3, 1)
    ∷ when (nat_lt a n || nat_lt b m) (3, 2) ∷ []

-- opening gives a new docket of these capacities over the host's memory, or refuses and hands the
-- memory back as it was
abbrev pub Opened : ℕ → ℕ → MutBor (List Concept) → MutBor (List Line) → Result Docket Unopened → Type 0
Opened n m cs ls (Ok d) = (first (opening_checks n m (length cs.now) (length ls.now)) ≡ None) × Fresh d
    × (room d.vocabulary.concepts ≡ n) × (room d.book ≡ m) × (d.vocabulary.concepts.slots ≡ cs)
    × (d.book.slots ≡ ls)
Opened n m cs ls (Err u) =
    (first (opening_checks n m (length cs.now) (length ls.now)) ≡ Some (returned u.refusal))
    × (u.concepts ≡ cs) × (u.lines ≡ ls)

-- d after a call that its phase admits
abbrev pub entered : Docket → Subject → Docket
entered d k = record d { phase = after d.phase k }

abbrev pub Entered : Docket → Subject → Result (Unit {0}) Refusal → Docket → Type 0
Entered d k (Ok u) e = (admits d.phase k ≡ true) × (e ≡ entered d k)
Entered d k (Err f) e = (admits d.phase k ≡ false) × (returned f ≡ (2, 0)) × (e ≡ d)
