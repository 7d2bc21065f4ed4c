use Rattle.std.proofs.Common.{◌≡◌, ℕ, ◌+◌, ◌-◌, ◌≤◌, ◌++◌, length, take, length-take, ◌∙◌, ap, arith}
use Rattle.std.proofs.lemmas.List.{take-append-le, length-take-le}
use Rattle.console.proofs.Reading.{read_more, front_grows, behind_stays, as_long}
use Rattle.console.proofs.input.fill.Goals as goal

pub loop-filled-preserved : goal.loop-filled-preserved
loop-filled-preserved g c =
    let (inside, consumed, stays) = c.loop-filled.invariant in
    let buffer = c.loop-filled.buffer in
    let filled = c.loop-filled.filled in
    let more = c.in_ok-more.more in
    let part = c.copy_from_slice.new.self in
    let k : ℕ = filled + more - filled in
    let few : more ≤ length c.read.new.buf = c.in_ok-more.ensures.bound.0 in
    let came : part ≡ take more c.read.new.buf = c.copy_from_slice.ensures.after ∙ take-append-le more c.read.new.buf _ few in
    let fits : filled + more ≤ length buffer =
    omega (arith, inside, few, c.read.auto.buf, c.min-most.ensures, length-take c.min-most.result c.loop-filled.chunk) in
    let size : length part ≡ k = ap length came ∙ length-take-le more c.read.new.buf few ∙ omega arith in
    let end : filled + more ≡ filled + k = omega arith in
    let long = as_long buffer part filled k (filled + more) end fits size in (
      omega (arith, long, fits),
      read_more _ _ _ _ _ _ (front_grows buffer part filled k (filled + more) end fits size ∙ ap (λ l. take filled buffer ++ l) came) consumed c.in_ok-more.ensures.bytes.0,
      behind_stays buffer part filled k (filled + more) end fits size c.args.buffer.now stays,
    )
