-- The small tree is closed by the table, and so it is taken.
use Rattle.std.proofs.Common.{◌≡◌, ℕ, zero, suc, ◌<◌, Bool, true, ltb, eqb, List, [], ◌∷◌, sym, refl, ◌∙◌, subst, ⊎_elim, eqb→eq, arith}
use Rattle.std.proofs.lemmas.Bool.{and_parts, ltb-true, agree_below_at}
use Rattle.std.proofs.lemmas.Float.{T_from_true}
use Rattle.bits.specs.Among.{among}
use Rattle.bits.specs.Below.{some_below}
use Rattle.bits.proofs.Tests.{never, T_true, or_out}
use Rattle.register.specs.References.{all_below}
use Rattle.closure.specs.Decide.{is_below, is_transitive}
use Rattle.vocabulary.specs.Vocabularies.{theory}
use Rattle.schemas.specs.House.{house}
use Rattle.schemas.proofs.HouseLaws.{house_is_the_table}
use Rattle.docket.specs.Runs.{any}
use Rattle.facts.specs.Trees.{Rising}
use Rattle.facts.specs.Filing.{leaf_filed, one_filed}
use Rattle.facts.specs.TableTrees.{CarriesByTable, ClosedByTable}
use Rattle.facts.proofs.ThreeFacts.{three_facts}
use Rattle.examples.specs.SmallDocket.{six, other_clash}
use Rattle.examples.specs.RunCases.{opened, vocabulary_events}
use Rattle.examples.specs.SmallTree.{clash_node, asking_node, small_tree, asking, filings, IsTaken, SmallTree}
use Rattle.examples.proofs.Opening.{opened_fresh}
use Rattle.examples.proofs.Running.{vocabulary_ran, tree_ran}
use Rattle.examples.proofs.Steps.{steps_hold}

-- the numbers of a list whose numbers are below n
among_below : (n : ℕ) (ms : List ℕ) → all_below ms n ≡ true → (c : ℕ) → among ms c ≡ true → c < n
among_below n [] h c i = never i
among_below n (m ∷ ms) h c i =
    let (a, b) = and_parts (ltb m n) (all_below ms n) h in
    ⊎_elim
    (λ t. subst (λ (x : ℕ). x < n) (eqb→eq m c t) (ltb-true m n a))
    (λ t. among_below n ms b c (T_true (among ms c) t))
    (or_out (eqb m c) (among ms c) (T_from_true _ i))

clash_rises : Rising (2 ∷ 4 ∷ [])
clash_rises zero l = omega arith
clash_rises (suc i) l = absurd (omega arith)

asking_rises : Rising (0 ∷ 3 ∷ 5 ∷ [])
asking_rises zero l = omega arith
asking_rises (suc zero) l = omega arith
asking_rises (suc (suc i)) l = absurd (omega arith)

-- the conclusion at the root is the label of the child
carries : CarriesByTable (theory six) asking_node 0 clash_node
unfolding some_below is_below is_transitive
carries c =
    let concluded : ℕ → Bool = λ x. house.concludes 10 (theory six) asking_node.on (among asking_node.label) 0 x in
    let said = house_is_the_table.lines (theory six) 10 3 0 0 (among asking_node.label) 0 c in
    let same : (x : ℕ) → x < 6 → among clash_node.label x ≡ concluded x =
    λ x l. agree_below_at (among clash_node.label) concluded 6 x refl l in (
      λ h. said.0 (sym (same c (among_below 6 clash_node.label refl c h)) ∙ h),
      λ d. same c d.stands ∙ said.1 d,
    )

small_tree_closed : ClosedByTable (theory six) small_tree
small_tree_closed = (
  record { rising = asking_rises; stands = among_below 6 asking_node.label refl; applies = steps_hold.1.1.0 },
  refl,
  carries,
  (record { rising = clash_rises; stands = among_below 6 clash_node.label refl; applies = steps_hold.1.0 }, refl),
)

-- by the fact, at this tree
small_tree_taken : IsTaken
small_tree_taken d ready m a b cites others run between nothing e ran =
    three_facts.closed_trees_are_taken d ready.reached ready.is_sealed small_tree
    (subst (λ t. ClosedByTable t small_tree) (sym ready.same_theory) small_tree_closed) ready.two_free run
    (record {
      filings = filings m a b;
      others = others;
      last = b;
      in_order = one_filed (asking m) b (leaf_filed other_clash a refl refl refl) refl cites refl;
      between = between;
      nothing_else = nothing;
    }) e ran

pub small_tree_holds : SmallTree
small_tree_holds = record {
  closed = small_tree_closed;
  taken = small_tree_taken;
  ready = record {
    reached = record { began = opened; fresh = opened_fresh; history = vocabulary_events; ran = vocabulary_ran any };
    is_sealed = refl;
    same_theory = refl;
    two_free = omega arith;
  };
  run = tree_ran any tt;
}
