-- The house has proper rules.
use Rattle.std.proofs.Common.{◌≡◌, ℕ, ◌<◌, Bool, true, ◌&&◌, ltb, Option, length, sym, refl, ap, ◌∙◌, arith}
use Rattle.std.proofs.lemmas.Bool.{and_parts, and_from}
use Rattle.logic.specs.Theories.{Theory, AreMates, are_mates}
use Rattle.logic.specs.Pairing.{joined}
use Rattle.logic.specs.Keeping.{Kept}
use Rattle.calculus.specs.declared.rule.Principals.{Principals}
use Rattle.calculus.specs.Schemas.{Schema}
use Rattle.calculus.specs.Calculi.{Calculus, alone, beside}
use Rattle.schemas.specs.Table.{Applies, bottom, clash, conjunction, disjunction, narrower, general, cut, inverse_cut, transitive_cut, neighbour}
use Rattle.schemas.specs.House.{schema, house, bottom as bottom-rule, clash as clash-rule, conjunction as conjunction-rule, disjunction as disjunction-rule, narrower as narrower-rule, general as general-rule, cut as cut-rule, inverse_cut as inverse-cut-rule, transitive_cut as transitive-cut-rule, neighbour as neighbour-rule}
use Rattle.schemas.proofs.FromTests.{takes_1, takes_2, takes_3, takes_4, takes_5, takes_6, takes_7, takes_8, takes_9, takes_10}
use Rattle.facts.specs.Proper.{with_pair, ProperRule, Proper}
use Rattle.facts.proofs.ProperBanks.{alone_proper, beside_proper, mates_stay}

-- The principals of a step of the table stand. Those that its rule doesn't use are 0, which stands since another one does.
module _ (t : Theory) (kept : Kept t) (X : ℕ → Bool) where
  abbrev Stand : ℕ → Type 0
  Stand c = c < length t.concepts

  mates_stand : (p q : ℕ) → AreMates t.mates p q → Stand p × Stand q
  mates_stand p q m = let o = kept.opposed p q m in (o.this_at.0, o.that_at.0)

  p_stands : (p : ℕ) → Stand p → Stand p × Stand 0 × Stand 0
  p_stands p l = let z : Stand 0 = omega arith in (l, z, z)

  p_q_stand : (p q : ℕ) → Stand p × Stand q → Stand p × Stand q × Stand 0
  p_q_stand p q (l, k) = let z : Stand 0 = omega arith in (l, k, z)

  principals_stand : (n p q s : ℕ) → Applies t X n p q s → Stand p × Stand q × Stand s
  principals_stand n p q s (bottom h a) = p_stands p a.0
  principals_stand n p q s (clash h k m) = p_q_stand p q (mates_stand p q m)
  principals_stand n p q s (conjunction h a) = p_stands p a.0
  principals_stand n p q s (disjunction h a) = p_stands p a.0
  principals_stand n p q s (narrower h a b under) = p_q_stand p q (a.0, b.0)
  principals_stand n p q s (general m) = p_stands p (kept.axioms_stand p m)
  principals_stand n p q s (cut m) = p_q_stand p q (mates_stand p q m)
  principals_stand n p q s (inverse_cut m a b) = let (l, k) = mates_stand p q m in (l, k, a.0)
  principals_stand n p q s (transitive_cut m a chains b) = let (l, k) = mates_stand p q m in (l, k, b.0)
  principals_stand n p q s (neighbour h a) = p_stands p a.0

-- t with other mates
abbrev with_mates : Theory → (ℕ → Option ℕ) → Theory
with_mates t m = record t { mates = m }

abbrev MoreMates : (ℕ → Option ℕ) → (ℕ → Option ℕ) → Type 0
MoreMates m n = (p q : ℕ) → are_mates m p q ≡ true → are_mates n p q ≡ true

abbrev ProperSchema : Schema → Type 0
ProperSchema r = ProperRule r.applies r.concludes

-- A rule is proper if its steps are the table's and go on to apply as there are more mates, and if it lists the same
-- whatever the mates are.
proper : (n cites : ℕ) (applies : Theory → Principals → (ℕ → Bool) → Bool)
    (lists : Theory → Principals → (ℕ → Bool) → ℕ → ℕ → Bool)
    → ((t : Theory) (on : Principals) (X : ℕ → Bool) → applies t on X ≡ true → Applies t X n on.p on.q on.s)
    → ((t : Theory) (m : ℕ → Option ℕ) → MoreMates t.mates m → (on : Principals) (X : ℕ → Bool)
    → applies t on X ≡ true → applies (with_mates t m) on X ≡ true)
    → ((t : Theory) (m : ℕ → Option ℕ) (on : Principals) (X : ℕ → Bool) (i c : ℕ)
    → lists (with_mates t m) on X i c ≡ lists t on X i c)
    → ProperSchema (schema n cites applies lists)
proper n cites applies lists takes more same = record {
  principals_stand = λ t on X kept stand h. principals_stand t kept X n on.p on.q on.s (takes t on X h);
  still_applies = λ t c d kept able on X h. more t (joined t.mates c d) (mates_stay t c d able) on X h;
  still_concludes = λ t c d kept able on X h i e.
      ap (λ b. (ltb i cites && b) && (ltb e (length t.concepts) && lists (with_pair t c d) on X i e))
      (more t (joined t.mates c d) (mates_stay t c d able) on X h ∙ sym h)
      ∙ ap (λ b. (ltb i cites && applies t on X) && (ltb e (length t.concepts) && b)) (same t (joined t.mates c d) on X i e);
}

-- a rule whose tests first ask for mates
mates_first : (m n : ℕ → Option ℕ) (p q : ℕ) (rest : Bool) → MoreMates m n
    → (are_mates m p q && rest) ≡ true → (are_mates n p q && rest) ≡ true
mates_first m n p q rest more h =
    let (a, b) = and_parts (are_mates m p q) rest h in
    and_from (are_mates n p q) rest (more p q a) b

behind : (a b c : Bool) → (b ≡ true → c ≡ true) → (a && b) ≡ true → (a && c) ≡ true
behind a b c f h = let (x, y) = and_parts a b h in and_from a c x (f y)

-- the ten rules

bottom_proper : ProperSchema bottom-rule
bottom_proper = proper 1 0 _ _ takes_1 (λ t m more on X h. h) (λ t m on X i c. refl)

clash_proper : ProperSchema clash-rule
clash_proper = proper 2 0 _ _ takes_2
    (λ t m more on X. behind (X on.p) _ _ (behind (X on.q) _ _ (mates_first t.mates m on.p on.q _ more)))
    (λ t m on X i c. refl)

conjunction_proper : ProperSchema conjunction-rule
conjunction_proper = proper 3 1 _ _ takes_3 (λ t m more on X h. h) (λ t m on X i c. refl)

disjunction_proper : ProperSchema disjunction-rule
disjunction_proper = proper 4 2 _ _ takes_4 (λ t m more on X h. h) (λ t m on X i c. refl)

narrower_proper : ProperSchema narrower-rule
narrower_proper = proper 5 1 _ _ takes_5 (λ t m more on X h. h) (λ t m on X i c. refl)

general_proper : ProperSchema general-rule
general_proper = proper 6 1 _ _ takes_6 (λ t m more on X h. h) (λ t m on X i c. refl)

cut_proper : ProperSchema cut-rule
cut_proper = proper 7 2 _ _ takes_7 (λ t m more on X. mates_first t.mates m on.p on.q _ more) (λ t m on X i c. refl)

inverse_cut_proper : ProperSchema inverse-cut-rule
inverse_cut_proper = proper 8 2 _ _ takes_8 (λ t m more on X. mates_first t.mates m on.p on.q _ more) (λ t m on X i c. refl)

transitive_cut_proper : ProperSchema transitive-cut-rule
transitive_cut_proper = proper 9 2 _ _ takes_9 (λ t m more on X. mates_first t.mates m on.p on.q _ more) (λ t m on X i c. refl)

neighbour_proper : ProperSchema neighbour-rule
neighbour_proper = proper 10 1 _ _ takes_10 (λ t m more on X h. h) (λ t m on X i c. refl)

-- a proper bank, as a record, so that its parts say which bank it is
record Bank (k : Calculus) : Type 0 where
  rules : Proper k

single : (r : Schema) → ProperSchema r → Bank (alone r)
single r p = record { rules = alone_proper r p }

both : {a b : Calculus} → Bank a → Bank b → Bank (beside a b)
both {a} {b} p q = record { rules = beside_proper a b p.rules q.rules }

house_bank : Bank house
house_bank = both
    (both
    (both (single bottom-rule bottom_proper) (single clash-rule clash_proper))
    (both (single conjunction-rule conjunction_proper)
    (both (single disjunction-rule disjunction_proper) (single narrower-rule narrower_proper))))
    (both
    (both (single general-rule general_proper) (single cut-rule cut_proper))
    (both (single inverse-cut-rule inverse_cut_proper)
    (both (single transitive-cut-rule transitive_cut_proper) (single neighbour-rule neighbour_proper))))

pub house_proper : Proper house
house_proper = house_bank.rules
