-- The kinds of records, by the table of specs/Records.antt.
use Rattle.std.specs.Prelude.{◌≡◌, ◌⊎◌, ℕ, ◌<◌, ◌%◌, ◌≤◌, Result, MatchResult}
use Rattle.records.specs.declared.kind.Kind.{Kind}
use Rattle.records.specs.declared.kind.Kind.TheVariants.{Inclusion, Transitivity, Concept, Pair, Axiom, Seal, Line, Claim, CloseEmpty, CloseInhabited}
use Rattle.records.specs.declared.kind.UnknownKind.{UnknownKind}

-- the number that stands for a kind in a file
abbrev pub number_of : Kind → ℕ
number_of Inclusion = 1
number_of Transitivity = 2
number_of Concept = 3
number_of Pair = 4
number_of Axiom = 5
number_of Seal = 6
number_of Line = 7
number_of Claim = 8
number_of CloseEmpty = 9
number_of CloseInhabited = 10

-- the result is the kind with this number, or an error with a number that no kind has
abbrev pub DecodesKind : ℕ → Result Kind UnknownKind → Type 0
DecodesKind number r =
    MatchResult r (λ kind. number_of kind ≡ number)
    (λ e. (e.0 ≡ number) × ((number ≡ 0) ⊎ (10 < number)))

-- the body of a record of this kind can have n bytes
abbrev pub CanHave : Kind → ℕ → Type 0
CanHave Inclusion n = n ≡ 4
CanHave Transitivity n = n ≡ 2
CanHave Concept n = n ≡ 6
CanHave Pair n = n ≡ 4
CanHave Axiom n = n ≡ 2
CanHave Seal n = n ≡ 0
CanHave Line n = (12 ≤ n) × (n % 2 ≡ 0)
CanHave Claim n = n % 2 ≡ 0
CanHave CloseEmpty n = n ≡ 4
CanHave CloseInhabited n = (8 ≤ n) × (n % 2 ≡ 0)
