-- Listed edges.
use Rattle.std.proofs.Common.{◌≡◌, ℕ, ◌<◌, T, List, arith, eqb→eq}
use Rattle.std.proofs.lemmas.Grind.{common_steps}
use Rattle.models.specs.Items.{edges_in, edge_at, edge_role, edge_from, edge_to, joined}
use Rattle.bits.proofs.Tests.{and_out}
use Rattle.bits.proofs.SomeBelow.{some_there, there_some}

-- an edge is joined exactly if it is one of those listed
pub joined_out : (es : List ℕ) (r x y : ℕ) → T (joined es r x y) → (i : ℕ) × (i < edges_in es) × (edge_at es i ≡ record { role_name = r; from = x; to = y })
joined_out es r x y t =
    let w = some_there (edges_in es) _ t in
    let p = and_out _ _ w.2 in
    let q = and_out _ _ p.1 in
    let role : edge_role es w.0 ≡ r = eqb→eq _ _ p.0 in
    let source : edge_from es w.0 ≡ x = eqb→eq _ _ q.0 in
    let target : edge_to es w.0 ≡ y = eqb→eq _ _ q.1 in
    (w.0, w.1, λ h. record { role_name = role h; from = source h; to = target h })

pub joined_in : (es : List ℕ) (i : ℕ) → i < edges_in es → T (joined es (edge_role es i) (edge_from es i) (edge_to es i))
joined_in es i l = there_some (edges_in es) _ i l (grind (arith, common_steps))
