-- Pairs, seals, lines, closings, refused calls and questions: what they leave as it was.
use Rattle.std.proofs.Common.{◌≡◌, ℕ, ◌+◌, ◌<◌, ◌≤◌, List, [], ◌∷◌, ◌++◌, length, get_or, Ok, Err, Result, sym, refl, ap, ◌∙◌, subst, ◌⊎◌, inl, inr, append_assoc, append-nil, arith, length-append}
use Rattle.std.proofs.lemmas.List.{get_or_append_left, length_push}
use Rattle.refusals.specs.declared.Refusal.{Refusal}
use Rattle.register.specs.Registers.{entries, room}
use Rattle.bits.specs.Among.{among}
use Rattle.logic.specs.Theories.{Theory}
use Rattle.logic.specs.Pairing.{Pairable}
use Rattle.logic.specs.Keeping.{Kept}
use Rattle.logic.proofs.Keeping.{kept_pair}
use Rattle.calculus.specs.Calculi.{Calculus}
use Rattle.book.specs.declared.line.Line.{Line}
use Rattle.book.specs.Lines.{blank_line}
use Rattle.book.specs.Drafts.{line_of}
use Rattle.docket.specs.declared.Docket.{Docket}
use Rattle.docket.specs.declared.phase.Phase.TheVariants.{Sealed}
use Rattle.docket.specs.Dockets.{lines}
use Rattle.docket.specs.Calls.{Call, inclusion, transitivity, concept, pair, «axiom», seal, line, claim, close_empty, close_inhabited, Acts}
use Rattle.docket.specs.Runs.{Event, called, asked, Happens, any, Ran}
use Rattle.facts.specs.Events.{FilesNothing, IsRefusal, Each, NothingFiled}
use Rattle.facts.specs.Trees.{Node, Tree, leaf, one, two, root, Applied, Carries, Closed}
use Rattle.facts.specs.Proper.{with_pair, Proper}
use Rattle.facts.specs.Filing.{Taken, StandsWith}
use Rattle.facts.proofs.Growing.{words, pair_possible, pair_joined}
use Rattle.facts.proofs.Interleaving.{sum}

-- a pair, a seal, a line, a closing, or refused
abbrev pub Steady : Call → Result ℕ Refusal → Type 0
Steady c (Err x) = Unit {0}
Steady (inclusion r s) (Ok i) = ⊥
Steady (transitivity r) (Ok i) = ⊥
Steady (concept t a b) (Ok i) = ⊥
Steady (pair a b) (Ok i) = Unit {0}
Steady («axiom» c) (Ok i) = ⊥
Steady seal (Ok i) = Unit {0}
Steady (line k f) (Ok i) = Unit {0}
Steady (claim bytes) (Ok i) = ⊥
Steady (close_empty c n) (Ok i) = Unit {0}
Steady (close_inhabited c m old new) (Ok i) = Unit {0}

abbrev pub IsSteady : Event → Type 0
IsSteady (called c a) = Steady c a
IsSteady (asked q) = Unit {0}

-- how many lines it takes
abbrev pub taken : Call → Result ℕ Refusal → ℕ
taken c (Err x) = 0
taken (inclusion r s) (Ok i) = 0
taken (transitivity r) (Ok i) = 0
taken (concept t a b) (Ok i) = 0
taken (pair a b) (Ok i) = 0
taken («axiom» c) (Ok i) = 0
taken seal (Ok i) = 0
taken (line k f) (Ok i) = 1
taken (claim bytes) (Ok i) = 0
taken (close_empty c n) (Ok i) = 0
taken (close_inhabited c m old new) (Ok i) = 0

abbrev pub weight : Event → ℕ
weight (called c a) = taken c a
weight (asked q) = 0

at_most_one : (c : Call) (a : Result ℕ Refusal) → taken c a ≤ 1
at_most_one c (Err x) = omega arith
at_most_one (inclusion r s) (Ok i) = omega arith
at_most_one (transitivity r) (Ok i) = omega arith
at_most_one (concept t a b) (Ok i) = omega arith
at_most_one (pair a b) (Ok i) = omega arith
at_most_one («axiom» c) (Ok i) = omega arith
at_most_one seal (Ok i) = omega arith
at_most_one (line k f) (Ok i) = omega arith
at_most_one (claim bytes) (Ok i) = omega arith
at_most_one (close_empty c n) (Ok i) = omega arith
at_most_one (close_inhabited c m old new) (Ok i) = omega arith

pub weight_small : (x : Event) → weight x ≤ 1
weight_small (called c a) = at_most_one c a
weight_small (asked q) = omega arith

-- where nothing was filed, no line was taken
nothing_steady : (c : Call) (a : Result ℕ Refusal) → FilesNothing c ⊎ IsRefusal a → Steady c a × (taken c a ≡ 0)
nothing_steady c (Err x) h = (tt, refl)
nothing_steady (inclusion r s) (Ok i) (inl h) = absurd h
nothing_steady (inclusion r s) (Ok i) (inr h) = absurd h
nothing_steady (transitivity r) (Ok i) (inl h) = absurd h
nothing_steady (transitivity r) (Ok i) (inr h) = absurd h
nothing_steady (concept t a b) (Ok i) (inl h) = absurd h
nothing_steady (concept t a b) (Ok i) (inr h) = absurd h
nothing_steady (pair a b) (Ok i) h = (tt, refl)
nothing_steady («axiom» c) (Ok i) (inl h) = absurd h
nothing_steady («axiom» c) (Ok i) (inr h) = absurd h
nothing_steady seal (Ok i) h = (tt, refl)
nothing_steady (line k f) (Ok i) (inl h) = absurd h
nothing_steady (line k f) (Ok i) (inr h) = absurd h
nothing_steady (claim bytes) (Ok i) (inl h) = absurd h
nothing_steady (claim bytes) (Ok i) (inr h) = absurd h
nothing_steady (close_empty c n) (Ok i) h = (tt, refl)
nothing_steady (close_inhabited c m old new) (Ok i) h = (tt, refl)

nothing_happens : (x : Event) → NothingFiled x → IsSteady x × (weight x ≡ 0)
nothing_happens (called c a) h = nothing_steady c a h
nothing_happens (asked q) h = (tt, refl)

pub all_nothing : (xs : List Event) → Each NothingFiled xs → Each IsSteady xs × (sum weight xs ≡ 0)
all_nothing [] h = (tt, refl)
all_nothing (x ∷ xs) h =
    let (a, b) = nothing_happens x h.0 in
    let (c, d) = all_nothing xs h.1 in
    ((a, c), omega arith)

-- sealed, with a theory as every call keeps it
pub record Good (d : Docket) : Type 0 where
  pub kept : Kept (words d)
  pub sealed : d.phase ≡ Sealed

module _ (k : Calculus) (proper : Proper k) where
  -- a closed tree stays closed as two concepts are paired
  module _ (t : Theory) (c d : ℕ) (kept : Kept t) (able : Pairable t c d) where
    applied_pair : (n : Node) → Applied k t n → Applied k (with_pair t c d) n
    applied_pair n a = record {
      rising = a.rising;
      stands = a.stands;
      known = a.known;
      applies = (proper n.rule).still_applies t c d kept able n.on (among n.label) a.applies;
    }

    carries_pair : (n m : Node) (i : ℕ) → Applied k t n → Carries k t n i m → Carries k (with_pair t c d) n i m
    carries_pair n m i a q x l = q x l ∙ sym ((proper n.rule).still_concludes t c d kept able n.on (among n.label) a.applies i x)

    closed_pair : (u : Tree) → Closed k t u → Closed k (with_pair t c d) u
    closed_pair (leaf n) q = (applied_pair n q.0, q.1)
    closed_pair (one n u) q = (applied_pair n q.0, q.1, carries_pair n (root u) 0 q.0 q.2, closed_pair u q.3)
    closed_pair (two n u w) q =
        let left = carries_pair n (root u) 0 q.0 q.2 in
        let right = carries_pair n (root w) 1 q.0 q.3 in
        (applied_pair n q.0, q.1, left, right, closed_pair u q.4, closed_pair w q.5)

  -- e comes after d, and at most n lines were taken between
  pub record Later (n : ℕ) (d e : Docket) : Type 0 where
    pub good : Good e
    pub closed : (u : Tree) → Closed k (words d) u → Closed k (words e) u
    pub same_room : room e.book ≡ room d.book
    pub more : List Line
    pub lines_more : lines e ≡ lines d ++ more
    pub few : length (lines e) ≤ length (lines d) + n

  later_self : (d : Docket) → Good d → Later 0 d d
  later_self d g = record {
    good = g;
    closed = λ u c. c;
    same_room = refl;
    more = [];
    lines_more = sym (append-nil (lines d));
    few = omega arith;
  }

  later_later : (m n : ℕ) (c d e : Docket) → Later m c d → Later n d e → Later (m + n) c e
  later_later m n c d e p q = record {
    good = q.good;
    closed = λ u h. q.closed u (p.closed u h);
    same_room = q.same_room ∙ p.same_room;
    more = p.more ++ q.more;
    lines_more = q.lines_more ∙ ap (λ ls. ls ++ q.more) p.lines_more ∙ append_assoc (lines c) p.more q.more;
    few = let a = p.few in let b = q.few in omega arith;
  }

  -- the same book
  later_book : (d e : Docket) → Good e → ((u : Tree) → Closed k (words d) u → Closed k (words e) u) → e.book ≡ d.book
      → Later 0 d e
  later_book d e g c b = record {
    good = g;
    closed = c;
    same_room = ap room b;
    more = [];
    lines_more = ap entries b ∙ sym (append-nil (lines d));
    few = omega (arith, ap (λ r. length (entries r)) b);
  }

  -- and the same theory
  later_same : (d e x : Docket) → Good d → e ≡ x → x.phase ≡ Sealed → words x ≡ words d → x.book ≡ d.book → Later 0 d e
  later_same d e x g same sealed theory book =
      let now = sym (ap words same ∙ theory) in
      later_book d e (record { kept = subst Kept now g.kept; sealed = ap (λ (z : Docket). z.phase) same ∙ sealed })
      (λ u. subst (λ (t : Theory). Closed k t u) now) (ap (λ (z : Docket). z.book) same ∙ book)

  pub acts_later : (c : Call) (a : Result ℕ Refusal) (d e : Docket) → Steady c a → Good d → Acts c d a e → Later (taken c a) d e
  acts_later c (Err x) d e s g h = subst (Later 0 d) (sym h.1) (later_self d g)
  acts_later (inclusion r q) (Ok i) d e s g h = absurd s
  acts_later (transitivity r) (Ok i) d e s g h = absurd s
  acts_later (concept t x y) (Ok i) d e s g h = absurd s
  acts_later (pair x y) (Ok i) d e s g h =
      let t = words d in
      let able = pair_possible d.vocabulary e.vocabulary x y h.1.0 in
      let now = sym (pair_joined d.vocabulary e.vocabulary x y g.kept h.1.0) in
      let sealed = ap (λ (z : Docket). z.phase) h.1.2 ∙ g.sealed in
      later_book d e (record { kept = subst Kept now (kept_pair t x y g.kept able); sealed = sealed })
      (λ u c. subst (λ (t' : Theory). Closed k t' u) now (closed_pair t x y g.kept able u c)) (ap (λ (z : Docket). z.book) h.1.2)
  acts_later («axiom» x) (Ok i) d e s g h = absurd s
  acts_later seal (Ok i) d e s g h = later_same d e _ g h.1.1 refl refl refl
  acts_later (line j f) (Ok i) d e s g h =
      let now = sym (ap words h.1.2) in
      record {
        good = record { kept = subst Kept now g.kept; sealed = ap (λ (z : Docket). z.phase) h.1.2 ∙ g.sealed };
        closed = λ u. subst (λ (t : Theory). Closed k t u) now;
        same_room = h.1.1.4;
        more = line_of j f ∷ [];
        lines_more = h.1.1.3;
        few = omega (arith, ap length h.1.1.3, length_push (lines d) (line_of j f));
      }
  acts_later (claim bytes) (Ok i) d e s g h = absurd s
  acts_later (close_empty x n) (Ok i) d e s g h = later_same d e _ g h.1.2 g.sealed refl refl
  acts_later (close_inhabited x m old new) (Ok i) d e s g h = later_same d e _ g h.1.2 g.sealed refl refl

  happens_later : (x : Event) (d e : Docket) → IsSteady x → Good d → Happens x d e → Later (weight x) d e
  happens_later (called c a) d e s g h = acts_later c a d e s g h
  happens_later (asked q) d e s g h = subst (Later 0 d) (sym h) (later_self d g)

  pub run_later : (xs : List Event) (d e : Docket) → Each IsSteady xs → Good d → Ran any d xs e → Later (sum weight xs) d e
  run_later [] d e s g r = subst (Later 0 d) (sym r) (later_self d g)
  run_later (x ∷ xs) d e s g r =
      let a = happens_later x d r.0 s.0 g r.2 in
      later_later (weight x) (sum weight xs) d r.0 e a (run_later xs r.0 e s.1 a.good r.3)

  -- what stands goes on standing
  module _ (n : ℕ) (d e : Docket) (l : Later n d e) where
    still_there : (i : ℕ) → i < length (lines d)
        → (i < length (lines e)) × (get_or (lines e) i blank_line ≡ get_or (lines d) i blank_line)
    still_there i h = (
      omega (arith, ap length l.lines_more, length-append (lines d) l.more),
      ap (λ ls. get_or ls i blank_line) l.lines_more ∙ get_or_append_left (lines d) l.more blank_line i h,
    )

    pub still_taken : (x : Event) → Taken k d x → Taken k e x
    still_taken x t =
        let (a, b) = still_there t.number t.stands in
        record { draft = t.draft; number = t.number; answered = t.answered; stands = a; as_drafted = b ∙ t.as_drafted }

    pub still_stands : (label : List ℕ) (a : Result ℕ Refusal) → StandsWith d label a → StandsWith e label a
    still_stands label a s =
        let (p, q) = still_there s.number s.stands in
        record { number = s.number; answered = s.answered; stands = p; has_label = ap (λ (x : Line). x.label) q ∙ s.has_label }
