use Rattle.std.proofs.Common.{◌≡◌, ℕ, ◌+◌, ◌*◌, ◌/◌, ◌%◌, ◌<◌, ◌≤◌, T, List, get_or, sym, ap, ap₂, subst, arith, ltb→lt, lt→ltb}
use Rattle.bits.specs.Bits.{bit, has}
use Rattle.rows.specs.Rows.{contains}
use Rattle.models.proofs.verdict.Extensions.is_full.Goals as goal

pub returns-else-self-le64 : goal.returns-else-self-le64
returns-else-self-le64 c =
    let self = c.args.self.now in
    let few = self.few in
    let within = c.is_within.ensures in
    let full = c.requires.all in
    let read : (e : ℕ) → e < 256 → has c.row.result e ≡ contains self.rows.now c.args.c e = λ e h. ap (λ w. bit w (e % 64)) (c.row.ensures.words (e / 64) (omega arith)) in (
      (λ t e l.
          let h : e < 256 = omega arith in
          subst T (read e h) (within.0 t e h (subst T (sym (full e h)) (lt→ltb e self.size l)))),
      λ f. within.1 (λ e h t. subst T (sym (read e h)) (f e (ltb→lt e self.size (subst T (full e h) t)))),
    )

-- up to 64 elements are in one word
pub returns-then-self-le64 : goal.returns-then-self-le64
returns-then-self-le64 c =
    let self = c.args.self.now in
    let few : self.size ≤ 64 = c.if-self-le64.true in
    let within = c.is_word_within.ensures in
    let full = c.requires.all in
    let low : (r : List ℕ) (k w e : ℕ) → w ≡ k → e < 64 → bit (get_or r w 0) (e % 64) ≡ bit (get_or r k 0) e = λ r k w e q h.
    let m : e % 64 ≡ e = omega arith in
    ap₂ (λ i j. bit (get_or r i 0) j) q m in
    let in_row : (e : ℕ) → e < 64 → contains self.rows.now c.args.c e ≡ bit (get_or self.rows.now (4 * c.args.c) 0) e = λ e h.
    low self.rows.now (4 * c.args.c) (4 * c.args.c + e / 64) e (omega arith) h in
    let in_full : (e : ℕ) → e < 64 → has c.args.full e ≡ bit (get_or c.args.full 0 0) e = λ e h. low c.args.full 0 (e / 64) e (omega arith) h in (
      (λ t e l.
          let h : e < 64 = omega arith in
          subst T (sym (in_row e h)) ((within.0 t).bits e h (subst T (in_full e h) (subst T (sym (full e (omega arith))) (lt→ltb e self.size l))))),
      λ f. within.1 (record {
        bits = λ j h t.
            let l : j < self.size = ltb→lt j self.size (subst T (full j (omega arith)) (subst T (sym (in_full j h)) t)) in
            subst T (in_row j h) (f j l);
      }),
    )
