use Rattle.std.proofs.Common.{◌≡◌, ℕ, sym, ap, ◌∙◌, arith, rules}
use Rattle.logic.specs.Pairing.{pairable}
use Rattle.vocabulary.specs.Vocabularies.{theory}
use Rattle.docket.specs.declared.Docket.{Docket}
use Rattle.docket.proofs.Running.{stays}
use Rattle.docket.proofs.Answering.{pairs, never_pairs}
use Rattle.docket.proofs.Docket.pair.Goals as goal

pub returns-in_err-check_stands-clause-reached : goal.returns-in_err-check_stands-clause-reached
returns-in_err-check_stands-clause-reached c = stays (search rules)

pub returns-in_err-check_stands-2-clause-reached : goal.returns-in_err-check_stands-2-clause-reached
returns-in_err-check_stands-2-clause-reached c = stays (search rules)

pub returns-in-Some-clause-reached : goal.returns-in-Some-clause-reached
returns-in-Some-clause-reached c = stays (search rules)

pub returns-in-None-clause-reached : goal.returns-in-None-clause-reached
returns-in-None-clause-reached c = stays (search rules)

pub returns-in-Some-clause-right : goal.returns-in-Some-clause-right
returns-in-Some-clause-right c =
    let same = ap (λ (d : Docket). pairable (theory d.vocabulary) c.args.c c.args.d) c.in_ok-enter.ensures.1 in
    record {
      taken = λ i e. pairs c.args.self.now.vocabulary c.args.c c.args.d (sym same ∙ c.in-Some.ensures.0);
      refused = λ x e. let z : ◌≡◌ {A = ℕ} 0 1 = cc in absurd (omega arith);
    }

pub returns-in-None-clause-right : goal.returns-in-None-clause-right
returns-in-None-clause-right c =
    let same = ap (λ (d : Docket). pairable (theory d.vocabulary) c.args.c c.args.d) c.in_ok-enter.ensures.1 in
    record {
      taken = λ i e. let z : ◌≡◌ {A = ℕ} 0 1 = cc in absurd (omega arith);
      refused = λ x e seven. never_pairs c.args.self.now.vocabulary c.args.c c.args.d (sym same ∙ c.in-None.ensures.0);
    }
