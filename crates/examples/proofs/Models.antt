-- The models of the table.
use Rattle.std.proofs.Common.{ℕ, ◌<◌, [], sym, refl, subst, inl, inr, arith}
use borrow.Author.Count.{below_none, below_more}
use mathlib.Core.List.Memᴰ
use Rattle.logic.specs.declared.role.RoleAxiom.TheVariants.{Transitivity}
use Rattle.logic.specs.Interpretations.{MeetsRoleAxiom, IsTransitive}
use Rattle.models.specs.Items.{edges_in, GoodEdge}
use Rattle.models.specs.Models.{WellFormed, described}
use Rattle.examples.specs.SmallDocket.{bytes, model, one_mark, one_edge, chain, closed_chain}
use Rattle.examples.proofs.Passing.{meetings_hold}
use Rattle.examples.proofs.Judging.{formed}

-- the models are well formed

pub no_edge_formed : WellFormed (model 2 [] [])
no_edge_formed = formed 2 [] [] (omega arith, omega arith) (omega arith, refl) (refl, omega arith)
    (λ i l. absurd (omega arith)) (λ i l. absurd (omega arith))

one_edge_good : (i : ℕ) → i < edges_in (bytes one_edge) → GoodEdge (bytes one_edge) 2 i
one_edge_good = below_more _ 0 (below_none _) (record {
  role_in_range = omega arith;
  from_in_range = omega arith;
  to_in_range = omega arith;
  edge_rises = λ h. absurd (omega arith);
})

pub one_edge_formed : WellFormed (model 2 [] one_edge)
one_edge_formed = formed 2 [] one_edge (omega arith, omega arith) (omega arith, refl) (refl, omega arith)
    (λ i l. absurd (omega arith)) one_edge_good

pub marked_formed : WellFormed (model 2 one_mark one_edge)
marked_formed = formed 2 one_mark one_edge (omega arith, omega arith) (omega arith, refl) (refl, omega arith)
    (below_more _ 0 (below_none _) (record {
      element_in_range = omega arith;
      name_in_range = omega arith;
      mark_rises = λ h. absurd (omega arith);
    })) one_edge_good

pub chain_formed : WellFormed (model 3 [] chain)
chain_formed = formed 3 [] chain (omega arith, omega arith) (omega arith, refl) (refl, omega arith)
    (λ i l. absurd (omega arith)) (below_more _ 1 (below_more _ 0 (below_none _)
    (record {
      role_in_range = omega arith;
      from_in_range = omega arith;
      to_in_range = omega arith;
      edge_rises = λ h. absurd (omega arith);
    }))
    (record {
      role_in_range = omega arith;
      from_in_range = omega arith;
      to_in_range = omega arith;
      edge_rises = λ h. inr (refl, inl (omega arith));
    }))

pub closed_chain_formed : WellFormed (model 3 [] closed_chain)
closed_chain_formed = formed 3 [] closed_chain (omega arith, omega arith) (omega arith, refl) (refl, omega arith)
    (λ i l. absurd (omega arith)) (below_more _ 2 (below_more _ 1 (below_more _ 0 (below_none _)
    (record {
      role_in_range = omega arith;
      from_in_range = omega arith;
      to_in_range = omega arith;
      edge_rises = λ h. absurd (omega arith);
    }))
    (record {
      role_in_range = omega arith;
      from_in_range = omega arith;
      to_in_range = omega arith;
      edge_rises = λ h. inr (refl, inr (refl, omega arith));
    }))
    (record {
      role_in_range = omega arith;
      from_in_range = omega arith;
      to_in_range = omega arith;
      edge_rises = λ h. inr (refl, inl (omega arith));
    }))

-- the chain is not transitive, and with its shortcut it is

pub chain_lacks : IsTransitive (described (model 3 [] chain)) 0 → ⊥
chain_lacks t = meetings_hold.0 (λ a m. subst (MeetsRoleAxiom (described (model 3 [] chain))) (sym (Memᴰ.eq_of_singleton m)) t)

pub closed_chain_has : IsTransitive (described (model 3 [] closed_chain)) 0
closed_chain_has = meetings_hold.1.1.0 (Transitivity 0) (Memᴰ.head refl)
