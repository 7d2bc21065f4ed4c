-- Every call keeps the labels of the standing lines empty, if the banks that are lent are sound.
use Rattle.std.proofs.Common.{◌≡◌, ℕ, ◌<◌, ◌≤◌, Bool, true, List, [], ◌∷◌, ◌++◌, length, Ok, Err, Result, sym, refl, ap, ◌∙◌, subst, ⊎_elim, arith}
use Rattle.std.proofs.lemmas.List.{get_or_append_left, get_or_push, length_push}
use Rattle.std.proofs.lemmas.Bool.{cases_lt}
use Rattle.refusals.specs.declared.Refusal.{Refusal}
use Rattle.register.specs.References.{all_below}
use Rattle.register.specs.Registers.{entries, room}
use Rattle.bits.specs.Bits.{has}
use Rattle.logic.specs.Interpretations.{Interpretation}
use Rattle.logic.specs.Theories.{Theory, Inhabits}
use Rattle.logic.specs.Keeping.{Kept}
use Rattle.vocabulary.specs.Vocabularies.{theory}
use Rattle.calculus.specs.Calculi.{Calculus, SoundCalculus}
use Rattle.book.specs.declared.filing.Draft.{Draft}
use Rattle.book.specs.declared.line.Line.{Line}
use Rattle.book.specs.Lines.{blank_line, cited_lines, label_of}
use Rattle.book.specs.Drafts.{members, label, line_of, Admitted}
use Rattle.docket.specs.declared.Docket.{Docket}
use Rattle.docket.specs.Dockets.{Fresh, count, lines}
use Rattle.docket.specs.Calls.{Call, inclusion, transitivity, concept, pair, «axiom», seal, line, claim, close_empty, close_inhabited, Acts}
use Rattle.docket.specs.Runs.{sound, LendsCall, Reached}
use Rattle.docket.proofs.Reaching.{reached_kept}
use Rattle.facts.specs.Lines.{Empty, LinesAreEmpty}
use Rattle.facts.proofs.Reaching.{reached_has}
use Rattle.facts.proofs.Licences.{LabelsBelow, licensed_empty}
use Rattle.facts.proofs.Growing.{words, grown_count, acts_grown, empty_stays}
use Rattle.facts.proofs.Members.{none_absent, in_row}

-- an element that has all of a set has all of every smaller one
pub inhabits_less : (I : Interpretation) (t : Theory) (X Y : ℕ → Bool) → ((c : ℕ) → Y c ≡ true → X c ≡ true)
    → Inhabits I t X → Inhabits I t Y
inhabits_less I t X Y less i = record { element = i.element; inside = i.inside; in_all = λ c y. i.in_all c (less c y) }

abbrev AllEmpty : Theory → List Line → Type 0
AllEmpty t ls = (k : ℕ) → k < length ls → Empty t (has (label_of ls k))

-- what every call keeps: labels are of standing concepts, and none is inhabited
pub record Invariant (d : Docket) : Type 0 where
  pub labels_stand : LabelsBelow (count d) (lines d)
  pub all_empty : AllEmpty (words d) (lines d)

-- the same lines, in a theory that has grown
same_lines : (c : Call) (d e : Docket) (a : Result ℕ Refusal) → Kept (words d) → Acts c d a e
    → (x : Docket) → e ≡ x → x.book ≡ d.book → Invariant d → Invariant e
same_lines c d e a kept h x same book s =
    let g = acts_grown c d e a kept h in
    let more = grown_count (words d) (words e) g in
    let ls : lines e ≡ lines d = ap lines same ∙ ap entries book in
    record {
      labels_stand = subst (LabelsBelow (count e)) (sym ls) (λ k n l m. let b = s.labels_stand k n l m in omega arith);
      all_empty = subst (AllEmpty (words e)) (sym ls)
          (λ k l. empty_stays (words d) (words e) _ kept g (λ n m. s.labels_stand k n l m) (s.all_empty k l));
    }

-- one line more
label_push : (P : List ℕ → Type 0) (ls : List Line) (x : Line) (k : ℕ) → k < length (ls ++ x ∷ [])
    → (k < length ls → P (label_of ls k)) → P x.label → P (label_of (ls ++ x ∷ []) k)
label_push P ls x k h old new = ⊎_elim
    (λ (l : k < length ls). subst (λ (y : Line). P y.label) (sym (get_or_append_left ls (x ∷ []) blank_line k l)) (old l))
    (λ (l : length ls ≤ k).
    let e : length ls ≡ k = omega (arith, length_push ls x) in
    subst (λ (y : Line). P y.label) (sym (get_or_push ls x blank_line k e)) new)
    (cases_lt k (length ls))

module _ (k : Calculus) (law : SoundCalculus k) (f : Draft) (d : Docket) (kept : Kept (words d)) (s : Invariant d)
    (a : Admitted k (words d) (lines d) (room d.book) f)
    (standing : all_below (cited_lines (line_of k f)) (length (lines d)) ≡ true) where
  members_stand : (c : ℕ) → has (label f) c ≡ true → c < count d
  members_stand c h = none_absent (count d) (members f) a.members_stand c (in_row (members f) c h)

  label_empty : Empty (words d) (has (label f))
  label_empty I meets h =
      let t = theory d.vocabulary in
      let few = kept.few_concepts in
      licensed_empty (Inhabits I t) (inhabits_less I t) k t (lines d) (line_of k f) (law.few f.rule)
      (λ applies i. law.sound f.rule t f.on (has (label f)) I kept meets applies i)
      (λ n c l b. let m = s.labels_stand n c l b in omega arith)
      (λ n l. s.all_empty n l I meets) standing a.licensed h

  line_more : (e : Docket) → lines e ≡ lines d ++ line_of k f ∷ [] → words e ≡ words d → Invariant e
  line_more e more same = record {
    labels_stand = subst (λ (t : Theory). LabelsBelow (length t.concepts) (lines e)) (sym same)
        (subst (LabelsBelow (count d)) (sym more) (λ n c l.
        label_push (λ x. has x c ≡ true → c < count d) (lines d) (line_of k f) n l (s.labels_stand n c) (members_stand c)));
    all_empty = subst (λ (t : Theory). AllEmpty t (lines e)) (sym same) (subst (AllEmpty (words d)) (sym more)
        (λ n l. label_push (λ x. Empty (words d) (has x)) (lines d) (line_of k f) n l (s.all_empty n) label_empty));
  }

acts_invariant : (c : Call) (d e : Docket) (a : Result ℕ Refusal) → LendsCall sound c → Kept (words d) → Acts c d a e
    → Invariant d → Invariant e
acts_invariant c d e (Err x) lent kept h s = subst Invariant (sym h.1) s
acts_invariant (inclusion p q) d e (Ok i) lent kept h s = same_lines (inclusion p q) d e (Ok i) kept h _ h.1.1 refl s
acts_invariant (transitivity r) d e (Ok i) lent kept h s = same_lines (transitivity r) d e (Ok i) kept h _ h.1.1 refl s
acts_invariant (concept n p q) d e (Ok i) lent kept h s = same_lines (concept n p q) d e (Ok i) kept h _ h.1.3 refl s
acts_invariant (pair p q) d e (Ok i) lent kept h s = same_lines (pair p q) d e (Ok i) kept h _ h.1.2 refl s
acts_invariant («axiom» c) d e (Ok i) lent kept h s = same_lines («axiom» c) d e (Ok i) kept h _ h.1.1 refl s
acts_invariant seal d e (Ok i) lent kept h s = same_lines seal d e (Ok i) kept h _ h.1.1 refl s
acts_invariant (line k f) d e (Ok i) lent kept h s = line_more k lent f d kept s h.1.0 h.1.1.2 e h.1.1.3 (ap words h.1.2)
acts_invariant (claim bytes) d e (Ok i) lent kept h s = same_lines (claim bytes) d e (Ok i) kept h _ h.1.1 refl s
acts_invariant (close_empty c n) d e (Ok i) lent kept h s = same_lines (close_empty c n) d e (Ok i) kept h _ h.1.2 refl s
acts_invariant (close_inhabited c m old new) d e (Ok i) lent kept h s =
    same_lines (close_inhabited c m old new) d e (Ok i) kept h _ h.1.2 refl s

new_invariant : (d : Docket) → Fresh d → Invariant d
new_invariant d f = record {
  labels_stand = subst (LabelsBelow (count d)) (sym f.no_line) (λ k c l h. absurd (omega arith));
  all_empty = subst (AllEmpty (words d)) (sym f.no_line) (λ k l. absurd (omega arith));
}

still_invariant : (c : Call) (d e : Docket) (a : Result ℕ Refusal) → LendsCall sound c → Reached sound d → Acts c d a e
    → Invariant d → Invariant e
still_invariant c d e a lent r h = acts_invariant c d e a lent (reached_kept sound d r) h

pub reached_invariant : (d : Docket) → Reached sound d → Invariant d
reached_invariant = reached_has sound Invariant new_invariant still_invariant

pub lines_are_empty : LinesAreEmpty
lines_are_empty d r k l = (reached_invariant d r).all_empty k l
