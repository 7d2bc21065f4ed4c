-- The register of lines takes what the book admits.
use Rattle.std.proofs.Common.{◌≡◌, ℕ, ◌<◌, true, List, length, Err, arith}
use Rattle.register.specs.declared.store.Register.{Register}
use Rattle.register.specs.declared.store.Unfit.{Unfit}
use Rattle.register.specs.declared.store.Unfit.TheVariants.{Refers, Full}
use Rattle.register.specs.References.{all_below}
use Rattle.register.specs.Registers.{entries, room, Pushed}
use Rattle.logic.specs.Theories.{Theory}
use Rattle.calculus.specs.Calculi.{Calculus}
use Rattle.book.specs.declared.filing.Draft.{Draft}
use Rattle.book.specs.declared.line.Line.{Line}
use Rattle.book.specs.Lines.{cited_lines}
use Rattle.book.specs.Drafts.{line_of, Admitted}

pub never_unfit : {m : _} (k : Calculus) (t : Theory) (b s : Register Line m) (ls : List Line) (n : ℕ) (f : Draft) (l : Line) (u : Unfit)
    → ls ≡ entries b → n ≡ room b → Admitted k t ls n f → l ≡ line_of k f → Pushed cited_lines b s l (Err u) → ⊥
never_unfit k t b s ls n f l Refers p q a e pushed =
    let below : all_below (cited_lines l) (length (entries b)) ≡ true = rw (e, ← p) a.licensed.stand in
    let z : ◌≡◌ {A = ℕ} 0 1 = cc in omega arith
never_unfit k t b s ls n f l Full p q a e pushed =
    let free : length (entries b) < room b = rw (← p, ← q) a.free in
    omega arith
