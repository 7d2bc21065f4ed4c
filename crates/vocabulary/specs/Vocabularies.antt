-- What a vocabulary holds, and what filing and pairing do with it.
use Rattle.std.specs.Prelude.{◌≡◌, ℕ, Bool, true, false, List, [], None, Option, Result}
use Rattle.register.specs.declared.store.Unfit.{Unfit}
use Rattle.register.specs.Lists.{Added}
use Rattle.register.specs.Registers.{entries, Pushed}
use Rattle.logic.specs.declared.concept.Concept.{Concept}
use Rattle.logic.specs.declared.role.RoleAxiom.{RoleAxiom}
use Rattle.logic.specs.Concepts.{parts}
use Rattle.logic.specs.Theories.{Theory}
use Rattle.logic.specs.Pairing.{pairable}
use Rattle.vocabulary.specs.declared.Vocabulary.{Vocabulary}
use Rattle.vocabulary.specs.Mates.{mate, Joined}

-- the standing concepts, by number
abbrev pub concepts : Vocabulary → List Concept
concepts v = entries v.concepts

-- what was filed and paired: what rules and models are judged by
abbrev pub theory : Vocabulary → Theory
theory v =
    record { role_axioms = v.roles; concepts = concepts v; mates = mate v.mates; axioms = v.axioms }

-- nothing filed, nothing paired
pub record New (v : Vocabulary) : Type 0 where
  pub no_role_axiom : ◌≡◌ {A = List RoleAxiom} v.roles []
  pub no_concept : concepts v ≡ []
  pub no_mate : (c : ℕ) → mate v.mates c ≡ None
  pub no_axiom : ◌≡◌ {A = List ℕ} v.axioms []

-- v becomes w as concept k is filed
abbrev pub ConceptFiled : Vocabulary → Vocabulary → Concept → Result ℕ Unfit → Type 0
ConceptFiled v w k r = Pushed parts v.concepts w.concepts k r × (w ≡ record v { concepts = w.concepts })

-- v becomes w as a role axiom is filed
abbrev pub RolesFiled : Vocabulary → Vocabulary → RoleAxiom → Option ℕ → Type 0
RolesFiled v w a r = Added 256 v.roles w.roles a r × (w ≡ record v { roles = w.roles })

-- v becomes w as concept c is filed as an axiom
abbrev pub AxiomFiled : Vocabulary → Vocabulary → ℕ → Option ℕ → Type 0
AxiomFiled v w c r = Added 256 v.axioms w.axioms c r × (w ≡ record v { axioms = w.axioms })

-- v becomes w as c and d are paired, or nothing changes
abbrev pub Paired : Vocabulary → Vocabulary → ℕ → ℕ → Bool → Type 0
Paired v w c d true =
    (pairable (theory v) c d ≡ true) × Joined v.mates w.mates c d × (w ≡ record v { mates = w.mates })
Paired v w c d false = (pairable (theory v) c d ≡ false) × (w ≡ v)
