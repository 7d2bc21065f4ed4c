-- A line that was checked and put into the book is filed.
use Rattle.std.proofs.Common.{◌≡◌, ℕ, true, not, List, None, Ok, ap, ◌∙◌, subst}
use Rattle.refusals.specs.Checks.{when, otherwise, first}
use Rattle.register.specs.Registers.{room, Pushed}
use Rattle.calculus.specs.Calculi.{Calculus}
use Rattle.vocabulary.specs.Vocabularies.{theory}
use Rattle.book.specs.declared.filing.Draft.{Draft}
use Rattle.book.specs.declared.line.Line.{Line as BookLine}
use Rattle.book.specs.Lines.{cited_lines}
use Rattle.book.specs.Drafts.{line_of, draft_checks, Admitted}
use Rattle.book.proofs.Admitting.{checks_are_right}
use Rattle.docket.specs.declared.Docket.{Docket}
use Rattle.docket.specs.declared.phase.Subject.TheVariants.{Line}
use Rattle.docket.specs.Phases.{admits}
use Rattle.docket.specs.Dockets.{lines, entered}
use Rattle.docket.specs.Calls.{line, refusal, Acts}

module _ (k : Calculus) (f : Draft) (d : Docket) (sealed : admits d.phase Line ≡ true) where
  pub line_clears : Admitted k (theory d.vocabulary) (lines d) (room d.book) f → refusal (line k f) d ≡ None
  line_clears a =
      ap (λ b. otherwise (when (not b) (2, 0)) (first (draft_checks k (theory d.vocabulary) (lines d) (room d.book) f))) sealed
      ∙ (checks_are_right k (theory d.vocabulary) (lines d) (room d.book) f).1 a

  -- m is the docket once the call has entered it; e is m with the line in the book
  pub line_done : (m e : Docket) (ls : List BookLine) (n i : ℕ) (l : BookLine) → m ≡ entered d Line → ls ≡ lines m → n ≡ room m.book
      → Admitted k (theory m.vocabulary) ls n f → l ≡ line_of k f → Pushed cited_lines m.book e.book l (Ok i) → e ≡ record m { book = e.book }
      → Acts (line k f) d (Ok i) e
  line_done m e ls n i l is p q admitted becomes pushed frame =
      let there : Admitted k (theory m.vocabulary) (lines m) (room m.book) f = rw (← p, ← q) admitted in
      let a = subst (λ (x : Docket). Admitted k (theory x.vocabulary) (lines x) (room x.book) f) is there in
      let b = subst (λ (x : BookLine). Pushed cited_lines m.book e.book x (Ok i)) becomes pushed in (
        line_clears a,
        (a, subst (λ (x : Docket). Pushed cited_lines x.book e.book (line_of k f) (Ok i)) is b, frame ∙ ap (λ (x : Docket). record x { book = e.book }) is),
      )
