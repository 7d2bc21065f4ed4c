-- What the judgement of a model says.
use Rattle.std.specs.Prelude.{◌≡◌, ℕ, ◌<◌, true, List, length, Some, Ok, Err, Result}
use Rattle.std.specs.Prelude.{slice_index, slice_index_or}
use Rattle.refusals.specs.declared.Refusal.{Refusal}
use Rattle.refusals.specs.Table.{returned}
use Rattle.bits.specs.Bits.{has}
use Rattle.logic.specs.declared.concept.Concept.{Concept}
use Rattle.logic.specs.declared.role.RoleAxiom.{RoleAxiom}
use Rattle.logic.specs.declared.role.RoleAxiom.TheVariants.{Inclusion}
use Rattle.logic.specs.Interpretations.{Interpretation, MeetsRoleAxiom, MeetsRoleAxioms}
use Rattle.logic.specs.Meaning.{LiesIn, HoldsOfAll, Meets}
use Rattle.logic.specs.Theories.{Theory}
use Rattle.models.specs.declared.Model.{Model}
use Rattle.models.specs.Firsts.{First}
use Rattle.models.specs.Models.{WellFormed, FirstFlaw, described}
use Rattle.models.specs.Evaluation.{Evaluated}

-- every concept of the label stands
abbrev pub LabelStands : List Concept → List ℕ → Type 0
LabelStands cs label = (c : ℕ) → has label c ≡ true → c < length cs

-- The point p lies in concept c, if the label has it. No element lies in a concept that does not
-- stand, so the point misses one that the label has all the same.
abbrev pub PointLiesIn : Interpretation → List Concept → List ℕ → ℕ → ℕ → Type 0
PointLiesIn I cs label p c = has label c ≡ true → LiesIn I cs c p

-- A model m is judged by role axioms, concepts and axioms, whatever they are, with a label, a row
-- of bits for the concepts 0 to 1,023; its rows, once old, are new.
module _ (roles : List RoleAxiom) (cs : List Concept) (listed label : List ℕ) (m : Model)
    (old new : List ℕ) where
  -- it meets all, and its point lies in every concept of the label
  pub record Satisfied : Type 0 where
    pub formed : WellFormed m
    pub meets : Meets (described m) roles cs listed
    pub point_lies : (c : ℕ) → c < 1024 → PointLiesIn (described m) cs label m.point c
    pub evaluated : Evaluated (described m) cs old new

  -- role axiom i is the first that it breaks
  pub record RoleAxiomBroken (i : ℕ) : Type 0 where
    pub formed : WellFormed m
    pub first_broken :
        First (λ k. MeetsRoleAxiom (described m) (slice_index_or roles k (Inclusion 0 0)))
        (length roles) (Some i)
    pub rows_stay : new ≡ old

  -- it meets the role axioms, and axiom i is the first that some element misses
  pub record AxiomMissed (i : ℕ) : Type 0 where
    pub formed : WellFormed m
    pub meets_roles : MeetsRoleAxioms (described m) roles
    pub first_missed :
        First (λ k. HoldsOfAll (described m) cs (slice_index listed k)) (length listed) (Some i)
    pub evaluated : Evaluated (described m) cs old new

  -- it meets all axioms, and c is the least concept of the label that its point misses
  pub record PointMissed (c : ℕ) : Type 0 where
    pub formed : WellFormed m
    pub meets : Meets (described m) roles cs listed
    pub member : has label c ≡ true
    pub least_missed : First (PointLiesIn (described m) cs label m.point) 1024 (Some c)
    pub evaluated : Evaluated (described m) cs old new

  -- what a refusal says, by its number and its place; no other number is given
  pub data RefusedAs (number place : ℕ) : Type 0 where
    wrong_form : number ≡ 12 → FirstFlaw m place → new ≡ old → RefusedAs number place
    breaks_role_axiom : number ≡ 13 → RoleAxiomBroken place → RefusedAs number place
    misses_axiom : number ≡ 14 → AxiomMissed place → RefusedAs number place
    point_misses : number ≡ 15 → PointMissed place → RefusedAs number place

  -- what an answer says
  abbrev pub JudgedBy : Result (Unit {0}) Refusal → Type 0
  JudgedBy (Ok x) = Satisfied
  JudgedBy (Err f) = RefusedAs (returned f).0 (returned f).1

-- THE CONTRACT: what the answer to a model says under a theory, any that there is, with any label
abbrev pub Judged : Theory → (label : List ℕ) → Model → (old : List ℕ)
    → Result (Unit {0}) Refusal → (new : List ℕ) → Type 0
Judged t label m old r new = JudgedBy t.role_axioms t.concepts t.axioms label m old new r
