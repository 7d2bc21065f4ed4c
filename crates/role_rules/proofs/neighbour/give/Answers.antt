use Rattle.std.proofs.Common.{◌≡◌, ◌&&◌, eqb, length, sym, ap, arith}
use Rattle.vocabulary.specs.Vocabularies.{theory}
use Rattle.schemas.specs.House.{passes, carries}
use Rattle.role_rules.proofs.Walking.{put_one, put_none, put_both}
use Rattle.role_rules.proofs.neighbour.give.Goals as goal

pub returns-then-carries : goal.returns-then-carries
returns-then-carries c =
    let t = theory c.args.v.now in
    let r = c.args.r in
    let d = c.args.d in
    let size : length c.pass.new.row ≡ 16 = omega arith in
    put_both c.args.row.now c.pass.new.row c.insert.new.row (passes t r d) (λ k. carries t r d && eqb d k) c.pass.ensures
    (put_one c.pass.new.row c.insert.new.row d (λ k. carries t r d && eqb d k) size c.insert.ensures
    (λ k. ap (λ b. b && eqb d k) (sym c.if-carries.ensures)))

pub returns-else-carries : goal.returns-else-carries
returns-else-carries c =
    let t = theory c.args.v.now in
    let r = c.args.r in
    let d = c.args.d in
    put_both c.args.row.now c.pass.new.row c.pass.new.row (passes t r d) (λ k. carries t r d && eqb d k) c.pass.ensures
    (put_none c.pass.new.row (λ k. carries t r d && eqb d k) (λ k. ap (λ b. b && eqb d k) (sym c.if-carries.ensures)))
