-- The house is lawful, and says exactly what the table says.
use Rattle.std.proofs.Common.{◌≡◌, ℕ, zero, suc, ◌-◌, ◌≤◌, Bool, true, ◌&&◌, eqb, get_or, refl, ap, ◌∙◌, arith}
use Rattle.std.proofs.lemmas.Bool.{and_parts, eqb-true, agree_below_at}
use Rattle.calculus.specs.Calculi.{LawfulCalculus}
use Rattle.calculus.specs.Banks.{alone_lawful, beside_lawful}
use Rattle.schemas.specs.Table.{conclusions}
use Rattle.schemas.specs.House.{bottom, clash, conjunction, disjunction, narrower, general, cut, inverse_cut, transitive_cut, neighbour, house}
use Rattle.schemas.specs.Laws.{HouseIsTheTable}
use Rattle.schemas.proofs.Agreement.{AllAgree, alone_agrees, beside_agrees, bottom_agrees, clash_agrees, conjunction_agrees, disjunction_agrees, narrower_agrees, general_agrees, cut_agrees, inverse_cut_agrees, transitive_cut_agrees, neighbour_agrees, bottom_lawful, clash_lawful, conjunction_lawful, disjunction_lawful, narrower_lawful, general_lawful, cut_lawful, inverse_cut_lawful, transitive_cut_lawful, neighbour_lawful}
use Rattle.schemas.proofs.ToTests.{step_true, line_true}

pub house_lawful : LawfulCalculus house
house_lawful =
    beside_lawful _ _
    (beside_lawful _ _
    (beside_lawful _ _ (alone_lawful bottom bottom_lawful) (alone_lawful clash clash_lawful))
    (beside_lawful _ _ (alone_lawful conjunction conjunction_lawful)
    (beside_lawful _ _ (alone_lawful disjunction disjunction_lawful) (alone_lawful narrower narrower_lawful))))
    (beside_lawful _ _
    (beside_lawful _ _ (alone_lawful general general_lawful) (alone_lawful cut cut_lawful))
    (beside_lawful _ _ (alone_lawful inverse_cut inverse_cut_lawful)
    (beside_lawful _ _ (alone_lawful transitive_cut transitive_cut_lawful) (alone_lawful neighbour neighbour_lawful))))

house_agrees : AllAgree house
house_agrees =
    beside_agrees _ _
    (beside_agrees _ _
    (beside_agrees _ _ (alone_agrees bottom bottom_agrees) (alone_agrees clash clash_agrees))
    (beside_agrees _ _ (alone_agrees conjunction conjunction_agrees)
    (beside_agrees _ _ (alone_agrees disjunction disjunction_agrees) (alone_agrees narrower narrower_agrees))))
    (beside_agrees _ _
    (beside_agrees _ _ (alone_agrees general general_agrees) (alone_agrees cut cut_agrees))
    (beside_agrees _ _ (alone_agrees inverse_cut inverse_cut_agrees)
    (beside_agrees _ _ (alone_agrees transitive_cut transitive_cut_agrees) (alone_agrees neighbour neighbour_agrees))))

-- the rules 1 to 10, one by one
ten_there : (n : ℕ) → 1 ≤ n → n ≤ 10 → (house.has n ≡ true) × (house.cites n ≡ get_or conclusions (n - 1) 0)
ten_there zero lo hi = absurd (omega arith)
ten_there (suc k) lo hi =
    let said : ℕ → Bool = λ k. house.has (suc k) && eqb (house.cites (suc k)) (get_or conclusions k 0) in
    let (a, b) = and_parts (house.has (suc k)) _ (agree_below_at said (λ k. true) 10 k refl (omega arith)) in
    let e : k ≡ suc k - 1 = omega arith in
    (a, eqb-true (house.cites (suc k)) (get_or conclusions k 0) b ∙ ap (λ m. get_or conclusions m 0) e)

pub house_is_the_table : HouseIsTheTable
house_is_the_table = record {
  ten = λ n. (house_agrees.all_of_ten n, λ l. (ten_there n l.0 l.1).0);
  counts = λ n lo hi. (ten_there n lo hi).1;
  steps = λ t n p q s X. (house_agrees.all_steps t n (record { p = p; q = q; s = s }) X, step_true t X n p q s);
  lines = λ t n p q s X i c. (
    house_agrees.all_lines t n (record { p = p; q = q; s = s }) X i c,
    λ d. line_true t X n p q s i c (step_true t X n p q s d.step_applies) d.stands d.lists,
  );
}
