-- The dockets that began new and on which only calls and questions have acted since.
use Rattle.std.specs.Prelude.{◌≡◌, ℕ, List, [], ◌∷◌, Result}
use Rattle.refusals.specs.declared.Refusal.{Refusal}
use Rattle.calculus.specs.Calculi.{Calculus, SoundCalculus}
use Rattle.docket.specs.declared.Docket.{Docket}
use Rattle.docket.specs.declared.conclusion.Inquiry.{Inquiry}
use Rattle.docket.specs.Dockets.{Fresh}
use Rattle.docket.specs.Calls.{Call, line, Acts}

-- a question, by what is asked
pub data Question : Type 0 where
  -- whether the first role is below the second; whether a role is transitive; the mate of a
  -- concept; the tally of the claims
  below : ℕ → ℕ → Question
  transitive : ℕ → Question
  mate : ℕ → Question
  tally : Question
  -- the first line within the label whose members are in these bytes
  first_line : List ℕ → Question
  -- a conclusion by the rules of a bank
  conclusion : Calculus → Inquiry → Question

-- what happens to a docket: a call, with its answer, or a question
pub data Event : Type 0 where
  called : Call → Result ℕ Refusal → Event
  asked : Question → Event

-- d becomes e by an event; a question leaves the docket as it is
abbrev pub Happens : Event → Docket → Docket → Type 0
Happens (called c a) d e = Acts c d a e
Happens (asked q) d e = e ≡ d

-- which banks of rules were lent: any, those that show the soundness law, or those that say what
-- this calculus says
pub data Banks : Type 0 where
  any : Banks
  sound : Banks
  only : Calculus → Banks

abbrev pub Lends : Banks → Calculus → Type 0
Lends any k = Unit {0}
Lends sound k = SoundCalculus k
Lends (only j) k = k ≡ j

-- the bank that a call needs, if it needs one, is such a bank
abbrev pub LendsCall : Banks → Call → Type 0
LendsCall b (line k f) = Lends b k
LendsCall b call = Unit {0}

abbrev pub LendsEvent : Banks → Event → Type 0
LendsEvent b (called c a) = LendsCall b c
LendsEvent b (asked (conclusion k f)) = Lends b k
LendsEvent b (asked question) = Unit {0}

-- docket d becomes e by these events, one after another, with such banks
abbrev pub Ran : Banks → Docket → List Event → Docket → Type 0
Ran b d [] e = e ≡ d
Ran b d (x ∷ xs) e = (m : Docket) × LendsEvent b x × Happens x d m × Ran b m xs e

-- A DOCKET IS REACHED if it began new and only calls and questions have acted on it since, in any
-- order and number, refused ones among them, with such banks
pub record Reached (b : Banks) (d : Docket) : Type 0 where
  pub began : Docket
  pub fresh : Fresh began
  pub history : List Event
  pub ran : Ran b began history d

-- a docket that was reached before a call is reached after it, whatever it answered
pub record StaysReached (c : Call) (d : Docket) (a : Result ℕ Refusal) (e : Docket) : Type 0 where
  pub reached : (b : Banks) → LendsCall b c → Reached b d → Reached b e

-- what is reached is reached with any banks; and by the rules of one calculus, if they are sound,
-- with sound banks
pub record BanksWiden : Type 0 where
  pub to_any : (b : Banks) (d : Docket) → Reached b d → Reached any d
  pub to_sound : (k : Calculus) (d : Docket) → SoundCalculus k → Reached (only k) d → Reached sound d
