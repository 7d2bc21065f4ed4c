-- Trees that are closed by the table are closed by the house, and so they are taken.
use Rattle.std.proofs.Common.{◌≡◌, ℕ, Bool, true, false, sym, refl, ◌∙◌}
use Rattle.bits.specs.Among.{among}
use Rattle.logic.specs.Theories.{Theory}
use Rattle.vocabulary.specs.Vocabularies.{theory}
use Rattle.schemas.specs.House.{house}
use Rattle.schemas.proofs.HouseLaws.{house_lawful, house_is_the_table}
use Rattle.facts.specs.Trees.{Node, Tree, leaf, one, two, root, Applied, Carries, Closed}
use Rattle.facts.specs.TableTrees.{AppliedByTable, conclusions_of, CarriesByTable, ClosedByTable, HouseTreesAreTaken}
use Rattle.facts.proofs.HouseProper.{house_proper}
use Rattle.facts.proofs.Taking.{trees_are_taken}

-- tests that pass together
same_tests : (a b : Bool) → (a ≡ true → b ≡ true) → (b ≡ true → a ≡ true) → a ≡ b
same_tests true b f g = sym (f refl)
same_tests false true f g = g refl
same_tests false false f g = refl

module _ (t : Theory) where
  applied : (n : Node) → AppliedByTable t n → Applied house t n
  applied n a =
      let applies = (house_is_the_table.steps t n.rule n.on.p n.on.q n.on.s (among n.label)).1 a.applies in
      let known = house_lawful.known n.rule t n.on (among n.label) applies in
      record { rising = a.rising; stands = a.stands; known = known; applies = applies }

  cited : (n : Node) → AppliedByTable t n → house.cites n.rule ≡ conclusions_of n
  cited n a = let (lo, hi) = (house_is_the_table.ten n.rule).0 (applied n a).known in house_is_the_table.counts n.rule lo hi

  carries : (n m : Node) (i : ℕ) → CarriesByTable t n i m → Carries house t n i m
  carries n m i q c l =
      let said = house_is_the_table.lines t n.rule n.on.p n.on.q n.on.s (among n.label) i c in
      same_tests (among m.label c) (house.concludes n.rule t n.on (among n.label) i c)
      (λ h. said.1 ((q c).0 h)) (λ h. (q c).1 (said.0 h))

  closed_by_house : (u : Tree) → ClosedByTable t u → Closed house t u
  closed_by_house (leaf n) q = (applied n q.0, cited n q.0 ∙ q.1)
  closed_by_house (one n u) q = (applied n q.0, cited n q.0 ∙ q.1, carries n (root u) 0 q.2, closed_by_house u q.3)
  closed_by_house (two n u w) q =
      let left = carries n (root u) 0 q.2 in
      let right = carries n (root w) 1 q.3 in
      (applied n q.0, cited n q.0 ∙ q.1, left, right, closed_by_house u q.4, closed_by_house w q.5)

pub house_trees_are_taken : HouseTreesAreTaken
house_trees_are_taken d reached sealed u closed =
    trees_are_taken house house_proper d reached sealed u (closed_by_house (theory d.vocabulary) u closed)
