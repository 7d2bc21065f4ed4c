use Rattle.std.proofs.Common.{◌≡◌, ℕ, eqb, length, arith, rules}
use Rattle.vocabulary.specs.Vocabularies.{theory}
use Rattle.schemas.specs.House.{passes}
use Rattle.role_rules.proofs.Walking.{put_one}
use Rattle.role_rules.proofs.neighbour.pass.Goals as goal

pub returns-then-s-r : goal.returns-then-s-r
returns-then-s-r c =
    let passed = passes (theory c.args.v.now) c.args.r c.args.d in
    let same : (k : ℕ) → passed k ≡ eqb c.in-Some-Only.e k = λ k. search rules in
    let size : length c.args.row.now ≡ 16 = omega arith in
    put_one c.args.row.now c.insert.new.row c.in-Some-Only.e passed size c.insert.ensures same
