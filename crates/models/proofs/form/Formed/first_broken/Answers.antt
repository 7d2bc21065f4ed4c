use Rattle.std.proofs.Common.{◌≡◌, length, get_or, arith, rules, tests}
use Rattle.std.proofs.lemmas.Iterator.{IsFirst-from_position, YieldsList-from_slice}
use Rattle.logic.specs.declared.role.RoleAxiom.TheVariants.{Inclusion}
use Rattle.logic.specs.Interpretations.{MeetsRoleAxiom}
use Rattle.models.specs.Items.{edges_in}
use Rattle.models.specs.Models.{described}
use Rattle.models.proofs.FirstFacts.{first_place}
use Rattle.models.proofs.PairFacts.{none_broken}
use Rattle.models.proofs.form.Formed.first_broken.Goals as goal

pub returns-then-is_empty : goal.returns-then-is_empty
returns-then-is_empty c =
    let self = c.args.self.now in
    let none : edges_in self.model.now.edges.now ≡ 0 = let many = c.edge_chunks.ensures.many in let empty : length c.edge_chunks.result.now ≡ 0 = search rules in omega arith in
    λ k l. none_broken self.model.now self.formed none (get_or c.args.role_axioms.now k (Inclusion 0 0))

pub returns : goal.returns
returns c =
    let m = described c.args.self.now.model.now in
    first_place (MeetsRoleAxiom m) (Inclusion 0 0) c.args.role_axioms.now _
    (IsFirst-from_position _ _ _ (λ a. MeetsRoleAxiom m a → ⊥) (λ a. MeetsRoleAxiom m a) c.position.ensures.ran (YieldsList-from_slice _ c.iter.ensures.rest)
    (λ x q k. search (rules, tests)) (λ x q k. (search rules, search (rules, tests))))
