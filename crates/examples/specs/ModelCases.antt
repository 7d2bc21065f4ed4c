-- Models: which role axioms they meet, and which elements lie in which concepts.
use Rattle.std.specs.Prelude.{true, false, List, [], ◌∷◌}
use Rattle.logic.specs.declared.role.RoleAxiom.TheVariants.{Inclusion, Transitivity}
use Rattle.examples.specs.Cases.{Case, meets, lies}
use Rattle.examples.specs.SmallDocket.{six_concepts, model, one_mark, one_edge, chain, closed_chain}

abbrev pub meeting_cases : List Case
meeting_cases =
    -- a chain of two edges lacks its shortcut, by the role and by its inverse
    meets (model 3 [] chain) (Transitivity 0 ∷ []) false
    ∷ meets (model 3 [] chain) (Transitivity 1 ∷ []) false
    ∷ meets (model 3 [] closed_chain) (Transitivity 0 ∷ []) true
    ∷ meets (model 3 [] closed_chain) (Transitivity 1 ∷ []) true
    -- one edge is no edge the other way round
    ∷ meets (model 2 [] one_edge) (Inclusion 0 0 ∷ []) true
    ∷ meets (model 2 [] one_edge) (Inclusion 0 1 ∷ []) false
    -- role name 1 has no edge
    ∷ meets (model 2 [] one_edge) (Inclusion 2 0 ∷ Inclusion 3 0 ∷ Transitivity 2 ∷ []) true
    ∷ meets (model 2 [] one_edge) (Inclusion 2 0 ∷ Inclusion 0 2 ∷ []) false
    ∷ []

-- element 0 is in A, and element 1 has it as a neighbour by the inverse
abbrev pub lying_cases : List Case
lying_cases =
    lies (model 2 one_mark one_edge) six_concepts 0 0 true
    ∷ lies (model 2 one_mark one_edge) six_concepts 1 0 false
    ∷ lies (model 2 one_mark one_edge) six_concepts 2 1 false
    ∷ lies (model 2 one_mark one_edge) six_concepts 3 0 false
    ∷ lies (model 2 one_mark one_edge) six_concepts 4 1 true
    ∷ lies (model 2 one_mark one_edge) six_concepts 5 0 true
    ∷ []
