-- Calls that close claims by models.
use Rattle.std.proofs.Common.{◌≡◌, ℕ, ◌<◌, Bool, true, not, ◌&&◌, ◌||◌, ltb, T, List, [], ◌∷◌, Ok, Err, refl, inr, below_more, arith}
use borrow.Author.Count.{below_none}
use Rattle.std.proofs.lemmas.Bool.{ltb-true}
use Rattle.std.proofs.lemmas.Float.{T_from_true}
use Rattle.refusals.specs.declared.Refusal.TheVariants.{RoleAxiom, Point}
use Rattle.bits.specs.Bits.{has}
use Rattle.bits.specs.Below.{some_below}
use Rattle.bits.proofs.Tests.{and_out, T_true}
use Rattle.rows.specs.Rows.{contains}
use Rattle.labels.specs.Labels.{row}
use Rattle.logic.specs.declared.concept.Concept.TheVariants.{Top}
use Rattle.logic.specs.declared.role.RoleAxiom.TheVariants.{Transitivity}
use Rattle.models.specs.Judging.{breaks_role_axiom, point_misses}
use Rattle.models.proofs.JudgingFacts.{satisfied, point_missed}
use Rattle.claims.specs.declared.Status.TheVariants.{Open as Unsettled, Inhabited}
use Rattle.docket.specs.declared.Docket.{Docket}
use Rattle.docket.specs.declared.phase.Phase.TheVariants.{Sealed}
use Rattle.docket.specs.Calls.{JudgedFor, Acts}
use Rattle.examples.specs.RunCases.{claimed, without_edge, with_edge, with_role, by_chain, by_closed_chain, with_chain}
use Rattle.examples.specs.SmallDocket.{docket, six, one_transitive, six_concepts, four_lines, three_claims, model, one_edge, chain, closed_chain, rows, rows_at_first, rows_without_edge, rows_with_edge}
use Rattle.examples.proofs.Judging.{evaluated, every, every_at, implied}
use Rattle.examples.proofs.Models.{no_edge_formed, one_edge_formed, chain_formed, closed_chain_formed, chain_lacks, closed_chain_has}

abbrev three : List ℕ
three = row (3 ∷ [])

-- concept c stands among so many and has the point in its row, if it is in the label
abbrev lie : (count : ℕ) → List ℕ → List ℕ → ℕ → Bool
lie count label rows c = not (has label c) || (ltb c count && contains rows c 0)

all_lie : (count : ℕ) (label rows : List ℕ) (n : ℕ) → every n (lie count label rows) ≡ true → (c : ℕ) → c < n → has label c ≡ true
    → (c < count) × T (contains rows c 0)
all_lie count label rows n h c l i =
    let t = implied (has label c) _ (every_at n (lie count label rows) c h l) (T_from_true (has label c) i) in
    let (stands, lies) = and_out (ltb c count) (contains rows c 0) t in
    (ltb-true c count (T_true (ltb c count) stands), lies)

pub edge_missing : Acts without_edge claimed (Err (Point 3)) claimed
unfolding row some_below
edge_missing =
    let m = model 2 [] [] in
    let judged : JudgedFor claimed 2 m rows_at_first (Err (Point 3)) rows_without_edge = point_misses refl
    (point_missed m no_edge_formed [] six_concepts [] three rows_at_first rows_without_edge (λ k l. absurd (omega arith))
    (evaluated m no_edge_formed six_concepts rows_without_edge rows_at_first (omega arith) (omega arith) refl
    six.concepts.ordered)
    3 (λ k l. absurd (omega arith)) (omega arith, λ p. (p refl).1, all_lie 6 three rows_without_edge 3 refl)) in
    (inr (refl, judged), refl)

-- claim 2 is closed
abbrev pub one_closed : Docket
one_closed = docket Sealed six four_lines (three_claims Unsettled Unsettled Inhabited)

pub edge_fits : Acts with_edge claimed (Ok 0) one_closed
unfolding row some_below
edge_fits =
    let m = model 2 [] one_edge in
    let judged : JudgedFor claimed 2 m rows_without_edge (Ok tt) rows_with_edge =
    satisfied m one_edge_formed [] six_concepts [] three rows_without_edge rows_with_edge (λ k l. absurd (omega arith))
    (evaluated m one_edge_formed six_concepts rows_with_edge rows_without_edge (omega arith) (omega arith) refl
    six.concepts.ordered)
    (λ k l. absurd (omega arith)) (all_lie 6 three rows_with_edge 1024 refl) in
    ((refl, judged), ((omega arith, refl, refl), refl, refl))

-- the same over one concept, with a transitive role

abbrev top : List ℕ
top = row (0 ∷ [])

pub chain_breaks : Acts by_chain with_role (Err (RoleAxiom 0)) with_role
chain_breaks =
    let judged : JudgedFor with_role 0 (model 3 [] chain) (rows (0 ∷ [])) (Err (RoleAxiom 0)) (rows (0 ∷ [])) =
    breaks_role_axiom refl (record {
      formed = chain_formed;
      first_broken = (omega arith, chain_lacks, λ k l. absurd (omega arith));
      rows_stay = refl;
    }) in
    (inr (refl, judged), refl)

pub closed_chain_fits : Acts by_closed_chain with_role (Ok 0) with_chain
unfolding row some_below
closed_chain_fits =
    let m = model 3 [] closed_chain in
    let old = rows (0 ∷ []) in
    let new = rows (7 ∷ []) in
    let judged : JudgedFor with_role 0 m old (Ok tt) new =
    satisfied m closed_chain_formed (Transitivity 0 ∷ []) (Top ∷ []) [] top old new
    (below_more _ 0 (below_none _) closed_chain_has)
    (evaluated m closed_chain_formed (Top ∷ []) new old (omega arith) (omega arith) refl one_transitive.concepts.ordered)
    (λ k l. absurd (omega arith)) (all_lie 1 top new 1024 refl) in
    ((refl, judged), ((omega arith, refl, refl), refl, refl))
