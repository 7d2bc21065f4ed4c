-- What it says of a draft that no check refuses it.
use Rattle.std.specs.Prelude.{slice_get}
use Rattle.std.proofs.Common.{◌≡◌, ℕ, zero, suc, min, ◌⊎◌, inl, inr, sym, ◌+◌, ◌<◌, Bool, true, false, cond, not, ◌&&◌, eqb, ltb, leb, List, [], ◌∷◌, ◌++◌, length, Some, None, Option, refl, ap, ◌∙◌, ⊎_elim, arith}
use Rattle.std.proofs.lemmas.Bool.{cases_eq, lt-ltb, lt-leb, eqb-true, eq-eqb, ne_eqb, not-false, leb-false, not_from_true, ltb-true}
use Rattle.refusals.specs.Checks.{when, with, first}
use Rattle.refusals.proofs.Clearing.{clear, cleared, when_none, none_when, first_behind}
use Rattle.bits.specs.Bits.{has}
use Rattle.labels.specs.Labels.{is_cut, absent_at, falling_at}
use Rattle.labels.proofs.LeastFacts.{least_all, all_least}
use Rattle.register.specs.References.{all_below}
use Rattle.logic.specs.Theories.{Theory}
use Rattle.calculus.specs.Calculi.{Calculus}
use Rattle.book.specs.declared.filing.Draft.{Draft}
use Rattle.book.specs.declared.line.Cited.TheVariants.{Nothing, One, Two}
use Rattle.book.specs.declared.line.Line.{Line}
use Rattle.book.specs.Lines.{cited, citing, label_of}
use Rattle.book.specs.Drafts.{members, label, concluded, least_outside, unfit, principal_checks, range_checks, absent_checks, late_checks, draft_checks, Admitted, ChecksAreRight}
use Rattle.bits.proofs.Tests.{never}

with_none : {A B : Type 0} (g : A → B) (o : Option A) → with g o ≡ None → o ≡ None
with_none g None h = refl
with_none g (Some x) h = let z : ◌≡◌ {A = ℕ} 0 1 = cc in absurd (omega arith)

none_with : {A B : Type 0} (g : A → B) (o : Option A) → o ≡ None → with g o ≡ None
none_with g o h = ap (with g) h

-- a test that asks for both
and_second : (a b : Bool) → (a && b) ≡ false → a ≡ true → b ≡ false
and_second true b h k = h
and_second false b h k = never k

and-false : (a b : Bool) → (a ≡ true → b ≡ false) → (a && b) ≡ false
and-false true b h = h refl
and-false false b h = refl

-- a cited line that is not used is 0
unused : (c i m : ℕ) → (ltb c i && not (eqb m 0)) ≡ false → c < i → m ≡ 0
unused c i m h l = eqb-true m 0 (not-false (eqb m 0) (and_second (ltb c i) (not (eqb m 0)) h (lt-ltb c i l)))

used : (c i m : ℕ) → (c < i → m ≡ 0) → (ltb c i && not (eqb m 0)) ≡ false
used c i m h = and-false (ltb c i) (not (eqb m 0)) (λ t. not_from_true (eqb m 0) (eq-eqb m 0 (h (ltb-true c i t))))

-- one that is used stands
cited_stands : (i c k m : ℕ) → (ltb i c && leb k m) ≡ false → i < c → m < k
cited_stands i c k m h l = leb-false k m (and_second (ltb i c) (leb k m) h (lt-ltb i c l))

stands_cited : (i c k m : ℕ) → (i < c → m < k) → (ltb i c && leb k m) ≡ false
stands_cited i c k m h = and-false (ltb i c) (leb k m) (λ t. lt-leb k m (h (ltb-true i c t)))

-- nothing of row y is outside
implies : (a b : Bool) → (a && not b) ≡ false → a ≡ true → b ≡ true
implies a b h k = not-false b (and_second a (not b) h k)

outside_within : (y : List ℕ) (g : ℕ → Bool) → least_outside y g ≡ None → (c : ℕ) → c < 1024 → has y c ≡ true → g c ≡ true
outside_within y g h c l k = implies (has y c) (g c) (least_all 1024 (λ e. has y e && not (g e)) h c l) k

none_outside : (y : List ℕ) (g : ℕ → Bool) → ((c : ℕ) → c < 1024 → has y c ≡ true → g c ≡ true) → least_outside y g ≡ None
none_outside y g h = all_least 1024 (λ e. has y e && not (g e)) (λ c l. and-false (has y c) (not (g c)) (λ k. not_from_true (g c) (h c l k)))

chosen : (b : Bool) (o : Option ℕ) → cond b o None ≡ None → b ≡ true → o ≡ None
chosen true o h k = h
chosen false o h k = never k

not_chosen : (b : Bool) (o : Option ℕ) → (b ≡ true → o ≡ None) → cond b o None ≡ None
not_chosen true o h = h refl
not_chosen false o h = refl

-- which lines are cited, and where
citing_is : (count m n : ℕ)
    → ((count ≡ 0) × (citing count m n ≡ Nothing)) ⊎ (((count ≡ 1) × (citing count m n ≡ One m)) ⊎ ((1 < count) × (citing count m n ≡ Two m n)))
citing_is count m n = ⊎_elim
    (λ (e : count ≡ 0). inl (e, rw e refl))
    (λ (d : count ≡ 0 → ⊥). inr (⊎_elim
    (λ (e : count ≡ 1). inl (e, rw e refl))
    (λ (d' : count ≡ 1 → ⊥). inr (omega arith, rw (ne_eqb count 0 d, ne_eqb count 1 d') refl))
    (cases_eq count 1)))
    (cases_eq count 0)

one_at : (m i x : ℕ) → slice_get (m ∷ []) i ≡ Some x → (i ≡ 0) × (x ≡ m)
one_at m zero x h = let e : m ≡ x = cc in (refl, sym e)
one_at m (suc i) x h = let z : ◌≡◌ {A = ℕ} 0 1 = cc in absurd (omega arith)

two_at : (m n i x : ℕ) → slice_get (m ∷ n ∷ []) i ≡ Some x → ((i ≡ 0) × (x ≡ m)) ⊎ ((i ≡ 1) × (x ≡ n))
two_at m n zero x h = let e : m ≡ x = cc in inl (refl, sym e)
two_at m n (suc i) x h = let p = one_at n i x h in inr (ap suc p.0, p.1)

citing_at : (count m n i x : ℕ) → slice_get (cited (citing count m n)) i ≡ Some x → ((i ≡ 0) × (0 < count) × (x ≡ m)) ⊎ ((i ≡ 1) × (1 < count) × (x ≡ n))
citing_at count m n i x h = ⊎_elim
    (λ e. let q : None ≡ Some x = rw e.1 at h in let z : ◌≡◌ {A = ℕ} 0 1 = cc in absurd (omega arith))
    (⊎_elim
    (λ e. let p = one_at m i x (rw e.1 at h) in let l = e.0 in inl (p.0, omega arith, p.1))
    (λ e. let l = e.0 in ⊎_elim (λ p. inl (p.0, omega arith, p.1)) (λ p. inr (p.0, l, p.1)) (two_at m n i x (rw e.1 at h))))
    (citing_is count m n)

first_cited : (count m n : ℕ) → 0 < count → slice_get (cited (citing count m n)) 0 ≡ Some m
first_cited count m n h = ⊎_elim
    (λ e. let l = e.0 in absurd (omega arith))
    (⊎_elim (λ e. rw e.1 refl) (λ e. rw e.1 refl))
    (citing_is count m n)

second_cited : (count m n : ℕ) → 1 < count → slice_get (cited (citing count m n)) 1 ≡ Some n
second_cited count m n h = ⊎_elim
    (λ e. let l = e.0 in absurd (omega arith))
    (⊎_elim (λ e. let l = e.0 in absurd (omega arith)) (λ e. rw e.1 refl))
    (citing_is count m n)

citing_length : (count m n : ℕ) → length (cited (citing count m n)) ≡ min 2 count
citing_length count m n = ⊎_elim
    (λ e. let l = e.0 in rw e.1 (omega arith))
    (⊎_elim (λ e. let l = e.0 in rw e.1 (omega arith)) (λ e. let l = e.0 in rw e.1 (omega arith)))
    (citing_is count m n)

pub citing_stands : (count m n limit : ℕ) → (0 < count → m < limit) → (1 < count → n < limit) → all_below (cited (citing count m n)) limit ≡ true
citing_stands count m n limit first second = ⊎_elim
    (λ e. rw e.1 refl)
    (⊎_elim
    (λ e. let l = e.0 in rw (e.1, lt-ltb m limit (first (omega arith))) refl)
    (λ e. let l = e.0 in rw (e.1, lt-ltb m limit (first (omega arith)), lt-ltb n limit (second l)) refl))
    (citing_is count m n)

module _ (k : Calculus) (t : Theory) (ls : List Line) (room : ℕ) (f : Draft) where
  -- the two rows of the cited lines
  abbrev unfit_checks : List (Option ℕ)
  unfit_checks =
      cond (ltb 0 (k.cites f.rule)) (least_outside (label_of ls f.m) (concluded k t f 0)) None
      ∷ cond (ltb 1 (k.cites f.rule)) (least_outside (label_of ls f.n) (concluded k t f 1)) None ∷ []

  pub admitted : first (draft_checks k t ls room f) ≡ None → Admitted k t ls room f
  admitted h =
      let r = clear (draft_checks k t ls room f) h in
      let a = r.1.1.1.1 in
      let l = a.1.1.1.1.1.1 in
      let u = clear unfit_checks (with_none (λ c. (9, c)) (unfit k t ls f) l.1.1.1.0) in
      record {
        known = not-false (k.has f.rule) (when_none (not (k.has f.rule)) _ r.0);
        first_unused = unused (k.cites f.rule) 1 f.m (when_none (ltb (k.cites f.rule) 1 && not (eqb f.m 0)) _ r.1.0);
        second_unused = unused (k.cites f.rule) 2 f.n (when_none (ltb (k.cites f.rule) 2 && not (eqb f.n 0)) _ r.1.1.0);
        whole = when_none (is_cut f.members.now) _ r.1.1.1.0;
        p_stands = leb-false (length t.concepts) f.on.p (when_none (leb (length t.concepts) f.on.p) _ a.0);
        q_stands = leb-false (length t.concepts) f.on.q (when_none (leb (length t.concepts) f.on.q) _ a.1.0);
        s_stands = leb-false (length t.concepts) f.on.s (when_none (leb (length t.concepts) f.on.s) _ a.1.1.0);
        first_stands = cited_stands 0 (k.cites f.rule) (length ls) f.m (when_none (ltb 0 (k.cites f.rule) && leb (length ls) f.m) _ a.1.1.1.0);
        second_stands = cited_stands 1 (k.cites f.rule) (length ls) f.n (when_none (ltb 1 (k.cites f.rule) && leb (length ls) f.n) _ a.1.1.1.1.0);
        members_stand = with_none (λ i. (4, i + 6)) (absent_at (length t.concepts) (members f)) a.1.1.1.1.1.0;
        free = leb-false room (length ls) (when_none (leb room (length ls)) _ l.0);
        rising = with_none (λ i. (6, i + 6)) (falling_at (members f)) l.1.0;
        licensed = record {
          applies = not-false (k.applies f.rule t f.on (has (label f))) (when_none (not (k.applies f.rule t f.on (has (label f)))) _ l.1.1.0);
          cites = citing_length (k.cites f.rule) f.m f.n;
          stand = citing_stands (k.cites f.rule) f.m f.n (length ls)
              (cited_stands 0 (k.cites f.rule) (length ls) f.m (when_none (ltb 0 (k.cites f.rule) && leb (length ls) f.m) _ a.1.1.1.0))
              (cited_stands 1 (k.cites f.rule) (length ls) f.n (when_none (ltb 1 (k.cites f.rule) && leb (length ls) f.n) _ a.1.1.1.1.0));
          within = λ i m at. ⊎_elim
              (λ (e : (i ≡ 0) × (0 < k.cites f.rule) × (m ≡ f.m)).
              let w = outside_within (label_of ls f.m) (concluded k t f 0) (chosen (ltb 0 (k.cites f.rule)) _ u.0 (lt-ltb 0 (k.cites f.rule) e.1)) in
              rw (e.0, e.2) w)
              (λ (e : (i ≡ 1) × (1 < k.cites f.rule) × (m ≡ f.n)).
              let w = outside_within (label_of ls f.n) (concluded k t f 1) (chosen (ltb 1 (k.cites f.rule)) _ u.1.0 (lt-ltb 1 (k.cites f.rule) e.1)) in
              rw (e.0, e.2) w)
              (citing_at (k.cites f.rule) f.m f.n i m at);
        };
      }

  -- the checks of the cited lines and of the members
  abbrev entry_checks : List (Option (ℕ × ℕ))
  entry_checks =
      when (ltb 0 (k.cites f.rule) && leb (length ls) f.m) (4, 4)
      ∷ when (ltb 1 (k.cites f.rule) && leb (length ls) f.n) (4, 5)
      ∷ with (λ i. (4, i + 6)) (absent_at (length t.concepts) (members f)) ∷ []

  pub no_check : Admitted k t ls room f → first (draft_checks k t ls room f) ≡ None
  no_check a = first_behind (range_checks k f) (absent_checks k t ls f ++ late_checks k t ls room f) None ranged
      (first_behind (absent_checks k t ls f) (late_checks k t ls room f) None named late)
    where
      ranged : first (range_checks k f) ≡ None
      ranged = cleared (range_checks k f) (
        none_when (not (k.has f.rule)) _ (not_from_true (k.has f.rule) a.known),
        (
          none_when (ltb (k.cites f.rule) 1 && not (eqb f.m 0)) _ (used (k.cites f.rule) 1 f.m a.first_unused),
          (none_when (ltb (k.cites f.rule) 2 && not (eqb f.n 0)) _ (used (k.cites f.rule) 2 f.n a.second_unused), (none_when (is_cut f.members.now) _ a.whole, tt)),
        ),
      )

      principals : first (principal_checks (length t.concepts) f.on) ≡ None
      principals = cleared (principal_checks (length t.concepts) f.on) (
        none_when (leb (length t.concepts) f.on.p) _ (lt-leb (length t.concepts) f.on.p a.p_stands),
        (
          none_when (leb (length t.concepts) f.on.q) _ (lt-leb (length t.concepts) f.on.q a.q_stands),
          (none_when (leb (length t.concepts) f.on.s) _ (lt-leb (length t.concepts) f.on.s a.s_stands), tt),
        ),
      )

      named : first (absent_checks k t ls f) ≡ None
      named = first_behind (principal_checks (length t.concepts) f.on) entry_checks None principals (cleared entry_checks (
        none_when (ltb 0 (k.cites f.rule) && leb (length ls) f.m) _ (stands_cited 0 (k.cites f.rule) (length ls) f.m a.first_stands),
        (
          none_when (ltb 1 (k.cites f.rule) && leb (length ls) f.n) _ (stands_cited 1 (k.cites f.rule) (length ls) f.n a.second_stands),
          (none_with (λ i. (4, i + 6)) (absent_at (length t.concepts) (members f)) a.members_stand, tt),
        ),
      ))

      fits : first unfit_checks ≡ None
      fits = cleared unfit_checks (
        not_chosen (ltb 0 (k.cites f.rule)) _ (λ b. none_outside (label_of ls f.m) (concluded k t f 0)
            (a.licensed.within 0 f.m (first_cited (k.cites f.rule) f.m f.n (ltb-true 0 (k.cites f.rule) b)))),
        (
          not_chosen (ltb 1 (k.cites f.rule)) _ (λ b. none_outside (label_of ls f.n) (concluded k t f 1)
              (a.licensed.within 1 f.n (second_cited (k.cites f.rule) f.m f.n (ltb-true 1 (k.cites f.rule) b)))),
          tt,
        ),
      )

      late : first (late_checks k t ls room f) ≡ None
      late = cleared (late_checks k t ls room f) (
        none_when (leb room (length ls)) _ (lt-leb room (length ls) a.free),
        (
          none_with (λ i. (6, i + 6)) (falling_at (members f)) a.rising,
          (
            none_when (not (k.applies f.rule t f.on (has (label f)))) _ (not_from_true (k.applies f.rule t f.on (has (label f))) a.licensed.applies),
            (none_with (λ c. (9, c)) (unfit k t ls f) fits, tt),
          ),
        ),
      )

-- what the code finds says that every check passes, where it looks at the label by one reading
pub all_passed : (k : Calculus) (t : Theory) (ls : List Line) (room : ℕ) (f : Draft) → first (range_checks k f) ≡ None → first (absent_checks k t ls f) ≡ None
    → length ls < room → (falling : Option ℕ) → falling ≡ falling_at (members f)
    → first {A = ℕ × ℕ} (with (λ i. (6, i + 6)) falling ∷ []) ≡ None
    → (x : List ℕ) → x ≡ label f → k.applies f.rule t f.on (has x) ≡ true → unfit k t ls f ≡ None → first (draft_checks k t ls room f) ≡ None
all_passed k t ls room f ranged named free falling is rises x label_is applies fits =
    first_behind (range_checks k f) (absent_checks k t ls f ++ late_checks k t ls room f) None ranged
    (first_behind (absent_checks k t ls f) (late_checks k t ls room f) None named (cleared (late_checks k t ls room f) (
      none_when (leb room (length ls)) _ (lt-leb room (length ls) free),
      (
        ap (with (λ i. (6, i + 6))) (sym is) ∙ (clear {A = ℕ × ℕ} (with (λ i. (6, i + 6)) falling ∷ []) rises).0,
        (
          none_when (not (k.applies f.rule t f.on (has (label f)))) _
              (not_from_true (k.applies f.rule t f.on (has (label f))) (ap (λ r. k.applies f.rule t f.on (has r)) (sym label_is) ∙ applies)),
          (none_with (λ c. (9, c)) (unfit k t ls f) fits, tt),
        ),
      ),
    )))

pub checks_are_right : ChecksAreRight
checks_are_right k t ls room f = (admitted k t ls room f, no_check k t ls room f)
