-- From lists and rows to the meaning.
use Rattle.std.proofs.Common.{◌≡◌, ℕ, zero, suc, ◌<◌, Bool, true, false, T, ◌↔◌, List, [], ◌∷◌, length, get_or, Some, None, Option, sym, refl, subst, arith}
use mathlib.Core.List.{Memᴰ}
use Rattle.register.specs.References.{Ordered}
use Rattle.bits.specs.Bits.{has}
use Rattle.rows.specs.Rows.{contains}
use Rattle.logic.specs.declared.concept.Concept.{Concept}
use Rattle.logic.specs.declared.role.RoleAxiom.{RoleAxiom}
use Rattle.logic.specs.declared.role.RoleAxiom.TheVariants.{Inclusion}
use Rattle.logic.specs.Interpretations.{Interpretation, MeetsRoleAxiom, MeetsRoleAxioms}
use Rattle.logic.specs.Concepts.{parts}
use Rattle.logic.specs.Meaning.{LiesIn, in_top, in_name, in_not_name, in_and, in_left, in_right, in_only, in_exists, HoldsOfAll, Meets}
use Rattle.logic.specs.Theories.{Theory}
use Rattle.models.specs.declared.Model.{Model}
use Rattle.models.specs.Firsts.{First}
use Rattle.models.specs.Models.{WellFormed, described}
use Rattle.models.specs.Evaluation.{Evaluated, RowIsFull}
use Rattle.models.specs.Judging.{PointLiesIn, AxiomMissed, PointMissed, Satisfied}
use Rattle.models.proofs.FirstFacts.{first_map}
use Rattle.models.proofs.PairFacts.{element, in_range}

-- members of a list by their places
pub every_member : {A : Type 0} (P : A → Type 0) (d : A) (xs : List A) → ((k : ℕ) → k < length xs → P (get_or xs k d)) → (a : A) → Memᴰ a xs → P a
every_member P d [] f a i = elim i [ ]
every_member P d (x ∷ xs) f a (Memᴰ.head e) = subst P (sym e) (f 0 (omega arith))
every_member P d (x ∷ xs) f a (Memᴰ.tail i) = every_member P d xs (λ k h. f (suc k) (omega arith)) a i

pub member_at : {A : Type 0} (d : A) (xs : List A) (k : ℕ) → k < length xs → Memᴰ (get_or xs k d) xs
member_at d [] k h = absurd (omega arith)
member_at d (x ∷ xs) zero h = Memᴰ.head refl
member_at d (x ∷ xs) (suc k) h = Memᴰ.tail (member_at d xs k (omega arith))

-- what fails for a member of a set is a member
pub failed_member : (b : Bool) (X : Type 0) → ((b ≡ true → X) → ⊥) → b ≡ true
failed_member true X f = refl
failed_member false X f = absurd (f (λ e. absurd (subst (λ b. T b) (sym e) tt)))

-- a concept that an element lies in stands
pub lies_stands : (I : Interpretation) (cs : List Concept) (c e : ℕ) → LiesIn I cs c e → c < length cs
lies_stands I cs c e (in_top a) = a.0
lies_stands I cs c e (in_name a t) = a.0
lies_stands I cs c e (in_not_name a t) = a.0
lies_stands I cs c e (in_and a h k) = a.0
lies_stands I cs c e (in_left a h) = a.0
lies_stands I cs c e (in_right a h) = a.0
lies_stands I cs c e (in_only a f) = a.0
lies_stands I cs c e (in_exists a y l r h) = a.0

-- What the search for a missed axiom and for a missed concept of the label says, once the rows are evaluated.
module _ (m : Model) (formed : WellFormed m) (roles : List RoleAxiom) (cs : List Concept) (listed label old new : List ℕ)
    (unbroken : First (λ k. MeetsRoleAxiom (described m) (get_or roles k (Inclusion 0 0))) (length roles) None)
    (evaluated : Evaluated (described m) cs old new) where
  meets_roles : MeetsRoleAxioms (described m) roles
  meets_roles = every_member (MeetsRoleAxiom (described m)) (Inclusion 0 0) roles unbroken

  -- a row's elements and the meaning
  contains_lies : (c e : ℕ) → e < m.size → ((c < length cs) × T (contains new c e)) ↔ LiesIn (described m) cs c e
  contains_lies c e h =
      let f = formed.sized.few_elements in (
        (λ t. ((evaluated.rows_hold c e t.0 (omega arith)).0 t.1).1),
        λ t. let l = lies_stands (described m) cs c e t in (l, (evaluated.rows_hold c e l (omega arith)).1 (element m e h, t)),
      )

  full_holds : (c : ℕ) → ((c < length cs) × RowIsFull new m.size c) ↔ HoldsOfAll (described m) cs c
  full_holds c = (
    (λ t e h. let i = in_range m e formed h in (contains_lies c e i).0 (t.0, t.1 e i)),
    λ t. (lies_stands (described m) cs c 0 (t 0 (omega arith)), λ e h. ((contains_lies c e h).1 (t e (element m e h))).1),
  )

  abbrev FirstMissed : Option ℕ → Type 0
  FirstMissed o = First (λ k. (get_or listed k 0 < length cs) × RowIsFull new m.size (get_or listed k 0)) (length listed) o

  holds : (o : Option ℕ) → FirstMissed o → First (λ k. HoldsOfAll (described m) cs (get_or listed k 0)) (length listed) o
  holds o = first_map _ _ (length listed) o (λ k l. full_holds (get_or listed k 0))

  abbrev LeastMissed : Option ℕ → Type 0
  LeastMissed o = First (λ c. has label c ≡ true → (c < length cs) × T (contains new c m.point)) 1024 o

  lies : (o : Option ℕ) → LeastMissed o → First (PointLiesIn (described m) cs label m.point) 1024 o
  lies o = first_map _ _ 1024 o (λ c k.
      let p = contains_lies c m.point formed.sized.pointed in ((λ t i. p.0 (t i)), λ t i. p.1 (t i)))

  meets : FirstMissed None → Meets (described m) roles cs listed
  meets f = record {
    meets_roles = meets_roles;
    meets_axioms = every_member (HoldsOfAll (described m) cs) 0 listed (holds None f);
  }

  pub axiom_missed : (i : ℕ) → FirstMissed (Some i) → AxiomMissed roles cs listed label m old new i
  axiom_missed i f = record { formed = formed; meets_roles = meets_roles; first_missed = holds (Some i) f; evaluated = evaluated }

  pub point_missed : (c : ℕ) → FirstMissed None → LeastMissed (Some c) → PointMissed roles cs listed label m old new c
  point_missed c f l =
      let first = lies (Some c) l in
      record { formed = formed; meets = meets f; member = failed_member _ _ first.1; least_missed = first; evaluated = evaluated }

  pub satisfied : FirstMissed None → LeastMissed None → Satisfied roles cs listed label m old new
  satisfied f l = record { formed = formed; meets = meets f; point_lies = lies None l; evaluated = evaluated }

-- what a judgement by lists and a model says, where they are a theory's and another's
pub judged_by : (t : Theory) (m m' : Model) (roles : List RoleAxiom) (cs : List Concept) (listed : List ℕ)
    (J : List RoleAxiom → List Concept → List ℕ → Model → Type 0)
    → roles ≡ t.role_axioms → cs ≡ t.concepts → listed ≡ t.axioms → m' ≡ m
    → (Ordered parts cs → J roles cs listed m') → Ordered parts t.concepts → J t.role_axioms t.concepts t.axioms m
judged_by t m m' roles cs listed J p q r s judge ordered =
    subst (λ z. J z t.concepts t.axioms m) p (subst (λ z. J roles t.concepts z m) r (subst (λ z. J roles t.concepts listed z) s
    (subst (λ z. Ordered parts z → J roles z listed m') q judge ordered)))
