-- Steps that apply under the theory of the small docket, and one that doesn't.
use Rattle.std.specs.Prelude.{true, false, List, [], ◌∷◌}
use Rattle.vocabulary.specs.Vocabularies.{theory}
use Rattle.examples.specs.Cases.{Case, applies}
use Rattle.examples.specs.SmallDocket.{six, seven}

abbrev pub step_cases : List Case
step_cases =
    -- two clashes, a neighbour that is asked for, and a cut
    applies (theory six) (0 ∷ 1 ∷ []) 2 0 1 0 true
    ∷ applies (theory six) (2 ∷ 4 ∷ []) 2 2 4 0 true
    ∷ applies (theory six) (0 ∷ 3 ∷ 5 ∷ []) 10 3 0 0 true
    ∷ applies (theory six) (0 ∷ 3 ∷ []) 8 1 0 5 true
    -- concept 6 is "only S E" and E is "some S 0", where the rule wants the inverse of S
    ∷ applies (theory seven) (0 ∷ 3 ∷ []) 8 1 0 6 false
    ∷ []
