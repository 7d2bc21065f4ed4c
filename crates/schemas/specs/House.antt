-- The ten rules as tests, and the calculus that has them all.
use Rattle.std.specs.Prelude.{ℕ, Bool, false, cond, ◌&&◌, ◌||◌, List, [], ◌∷◌, length, ◌==◌, nat_lt}
use Rattle.bits.specs.Among.{among}
use Rattle.bits.specs.Below.{some_below}
use Rattle.logic.specs.Roles.{inverse}
use Rattle.logic.specs.Theories.{Theory, concept_at, are_mates}
use Rattle.closure.specs.Decide.{is_below, is_transitive}
use Rattle.calculus.specs.declared.rule.Principals.{Principals}
use Rattle.calculus.specs.Premises.{p_alone}
use Rattle.calculus.specs.Schemas.{Schema}
use Rattle.calculus.specs.Calculi.{Calculus, alone, beside}
use Rattle.schemas.specs.Tests.{tagged, first_of, second_of}

-- A rule by its number, how many lines it cites, when a step applies, and what conclusion i lists.
-- Nothing is in a conclusion of a step that doesn't apply, nor past the last conclusion, and only
-- standing concepts are in one.
abbrev pub schema : ℕ → ℕ → (Theory → Principals → (ℕ → Bool) → Bool)
    → (Theory → Principals → (ℕ → Bool) → ℕ → ℕ → Bool) → Schema
schema number cites applies lists = record {
  number = number;
  cites = cites;
  applies = applies;
  concludes = λ t on X i c.
      (nat_lt i cites && applies t on X) && (nat_lt c (length t.concepts) && lists t on X i c);
}

-- a rule with no conclusion
abbrev pub closing : ℕ → (Theory → Principals → (ℕ → Bool) → Bool) → Schema
closing number applies = schema number 0 applies (λ t on X i c. false)

-- a rule whose conclusion i is the label with some concepts added
abbrev pub adding : ℕ → ℕ → (Theory → Principals → (ℕ → Bool) → Bool)
    → (Theory → Principals → ℕ → List ℕ) → Schema
adding number cites applies added =
    schema number cites applies (λ t on X i c. X c || among (added t on i) c)

-- the ten rules

abbrev pub bottom : Schema
bottom = closing 1 (λ t on X. X on.p && (tagged 1 (concept_at t on.p) && p_alone on))

abbrev pub clash : Schema
clash = closing 2 (λ t on X. X on.p && (X on.q && (are_mates t.mates on.p on.q && on.s == 0)))

abbrev pub conjunction : Schema
conjunction = adding 3 1
    (λ t on X. X on.p && (tagged 4 (concept_at t on.p) && p_alone on))
    (λ t on i. first_of (concept_at t on.p) ∷ second_of (concept_at t on.p) ∷ [])

abbrev pub disjunction : Schema
disjunction = adding 4 2
    (λ t on X. X on.p && (tagged 5 (concept_at t on.p) && p_alone on))
    (λ t on i. cond (i == 0) (first_of (concept_at t on.p)) (second_of (concept_at t on.p)) ∷ [])

-- k is "only R C" and j is "only S C", where S is below R
abbrev pub narrower : Schema
narrower = adding 5 1
    (λ t on X.
    let k = concept_at t on.p in
    let j = concept_at t on.q in
    X on.p && (tagged 6 k && (tagged 6 j && (second_of k == second_of j
    && (is_below t.role_axioms (first_of j) (first_of k) && on.s == 0)))))
    (λ t on i. on.q ∷ [])

abbrev pub general : Schema
general = adding 6 1 (λ t on X. among t.axioms on.p && p_alone on) (λ t on i. on.p ∷ [])

abbrev pub cut : Schema
cut = adding 7 2
    (λ t on X. are_mates t.mates on.p on.q && on.s == 0)
    (λ t on i. cond (i == 0) on.p on.q ∷ [])

-- what rules 8 and 9 add: p; then q and s
abbrev pub p_or_q_s : Principals → ℕ → List ℕ
p_or_q_s on i = cond (i == 0) (on.p ∷ []) (on.q ∷ on.s ∷ [])

-- k is "only R E" and j is E, "some R' q"
abbrev pub inverse_cut : Schema
inverse_cut = adding 8 2
    (λ t on X.
    let k = concept_at t on.s in
    let j = concept_at t (second_of k) in
    are_mates t.mates on.p on.q
    && (tagged 6 k && (tagged 7 j && (first_of j == inverse (first_of k) && second_of j == on.q))))
    (λ t on i. p_or_q_s on i)

-- k is "only R C", where R is transitive, and j is "only R' q"
abbrev pub transitive_cut : Schema
transitive_cut = adding 9 2
    (λ t on X.
    let k = concept_at t on.p in
    let j = concept_at t on.s in
    are_mates t.mates on.p on.q
    && (tagged 6 k && (is_transitive t.role_axioms (first_of k)
    && (tagged 6 j && (first_of j == inverse (first_of k) && second_of j == on.q)))))
    (λ t on i. p_or_q_s on i)

-- concept d passes concept c to every neighbour by role r: it is "only R C"
abbrev pub passes : Theory → ℕ → ℕ → ℕ → Bool
passes t r d c = let k = concept_at t d in tagged 6 k && (first_of k == r && second_of k == c)

-- concept d is carried to every neighbour by role r: it is "only S E", where R is below S and S is
-- transitive
abbrev pub carries : Theory → ℕ → ℕ → Bool
carries t r d =
    let k = concept_at t d in
    tagged 6 k
    && (is_below t.role_axioms r (first_of k) && is_transitive t.role_axioms (first_of k))

-- concept d gives concept c to every neighbour by role r
abbrev pub gives : Theory → ℕ → ℕ → ℕ → Bool
gives t r d c = passes t r d c || (carries t r d && d == c)

-- the neighbour has C, all axioms, and what the concepts of the label give
abbrev pub neighbour : Schema
neighbour = schema 10 1
    (λ t on X. X on.p && (tagged 7 (concept_at t on.p) && p_alone on))
    (λ t on X i c.
    let k = concept_at t on.p in
    (second_of k == c || among t.axioms c)
    || some_below (length t.concepts) (λ d. X d && gives t (first_of k) d c))

-- the ten rules as one bank
abbrev pub house : Calculus
house =
    beside
    (beside (beside (alone bottom) (alone clash))
    (beside (alone conjunction) (beside (alone disjunction) (alone narrower))))
    (beside (beside (alone general) (alone cut))
    (beside (alone inverse_cut) (beside (alone transitive_cut) (alone neighbour))))
