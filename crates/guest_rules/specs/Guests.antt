-- Rules beside the house's, as tests.
use Rattle.std.specs.Prelude.{ℕ, Bool, cond, ◌&&◌, Option, ◌==◌, nat_lt}
use Rattle.logic.specs.declared.concept.Concept.{Concept}
use Rattle.logic.specs.Theories.{Theory, concept_at}
use Rattle.calculus.specs.declared.rule.Principals.{Principals}
use Rattle.calculus.specs.Premises.{p_alone}
use Rattle.calculus.specs.Schemas.{Schema}
use Rattle.schemas.specs.Tests.{tagged, first_of, second_of}
use Rattle.schemas.specs.House.{schema}

-- C, where p is "some R C"
abbrev pub asked : Theory → Principals → Option Concept
asked t on = concept_at t (second_of (concept_at t on.p))

-- p is in X, "some R C", and C is "D or E"
abbrev pub asks_for_cases : Theory → Principals → (ℕ → Bool) → Bool
asks_for_cases t on X =
    X on.p && (tagged 7 (concept_at t on.p) && (tagged 5 (asked t on) && p_alone on))

-- rule 11: each conclusion is of a neighbour by R, and has D, or E, and nothing else
abbrev pub neighbour_cases : Schema
neighbour_cases = schema 11 2 asks_for_cases
    (λ t on X i c. cond (i == 0) (first_of (asked t on)) (second_of (asked t on)) == c)

-- a rule of any number, which names no concept: X without the concepts from a number upward
abbrev pub forgetting : ℕ → ℕ → Schema
forgetting number least = schema number 1
    (λ t on X. on.p == 0 && p_alone on)
    (λ t on X i c. nat_lt c least && X c)
