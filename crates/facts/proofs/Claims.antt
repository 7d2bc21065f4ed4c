-- What every call keeps of the claims: one that is empty was closed by a line, and one that is inhabited by a model, which is its
-- witness; and since then no axiom was filed.
use Rattle.std.proofs.Common.{◌≡◌, ℕ, ◌<◌, ◌≤◌, Bool, true, not, leb, List, [], ◌∷◌, ◌++◌, length, get_or, set, Some, None, Ok, Err, Option, Result, sym, refl, ap, ◌∙◌, subst, ⊎_elim, append-nil, arith, length-append, length-set}
use mathlib.Core.List.{Memᴰ}
use Rattle.std.proofs.lemmas.List.{get_or_append_left, get_or_push, length_push, get_or-set_same, get_or-set_other}
use Rattle.std.proofs.lemmas.Bool.{cases_lt, cases_eq, not-false, leb-false}
use Rattle.refusals.specs.declared.Refusal.{Refusal}
use Rattle.refusals.specs.Checks.{with}
use Rattle.refusals.proofs.Clearing.{clear, when_none}
use Rattle.file_bytes.specs.Bytes.{numbers}
use Rattle.bits.specs.Bits.{has}
use Rattle.labels.specs.Labels.{row, absent_at, outside}
use Rattle.logic.specs.declared.concept.Concept.{Concept}
use Rattle.logic.specs.declared.role.RoleAxiom.{RoleAxiom}
use Rattle.logic.specs.Interpretations.{Interpretation}
use Rattle.logic.specs.Meaning.{LiesIn}
use Rattle.logic.specs.Theories.{Theory}
use Rattle.logic.specs.Keeping.{Kept}
use Rattle.logic.proofs.Meanings.{grow}
use Rattle.vocabulary.proofs.Keeping.{concept_filed}
use Rattle.models.specs.declared.Model.{Model}
use Rattle.models.specs.Models.{described}
use Rattle.models.specs.Judging.{LabelStands, Judged}
use Rattle.claims.specs.declared.Claim.{Claim}
use Rattle.claims.specs.declared.Status.{Status}
use Rattle.claims.specs.declared.Status.TheVariants.{Open as Unsettled, Empty as IsEmpty, Inhabited}
use Rattle.claims.specs.Claiming.{filed, blank_claim, claim_at}
use Rattle.book.specs.Lines.{label_of}
use Rattle.docket.specs.declared.Docket.{Docket}
use Rattle.docket.specs.declared.phase.Phase.{Phase}
use Rattle.docket.specs.declared.phase.Phase.TheVariants.{Open, Sealed}
use Rattle.docket.specs.Phases.{is_unsealed, admits}
use Rattle.docket.specs.Dockets.{Fresh, count, lines}
use Rattle.docket.specs.Calls.{Call, inclusion, transitivity, concept, pair, «axiom», seal, line, claim, close_empty, close_inhabited, subject_of, all_checks, refusal, Acts}
use Rattle.docket.specs.Runs.{Banks, sound, LendsCall, Reached}
use Rattle.docket.proofs.Reaching.{reached_kept}
use Rattle.facts.specs.Lines.{Empty}
use Rattle.facts.specs.Proper.{with_pair}
use Rattle.facts.specs.Claims.{Witness, ClaimLabelsStand, EmptyClaimsAreEmpty, InhabitedClaimsHaveAnElement, InhabitedClaimsHaveNoLine, ClaimsAreRight}
use Rattle.facts.proofs.Reaching.{reached_has}
use Rattle.facts.proofs.Growing.{words, Grown, pair_joined, empty_stays}
use Rattle.facts.proofs.Members.{none_absent, in_row, none_outside}
use Rattle.facts.proofs.Emptiness.{Invariant, inhabits_less, reached_invariant, lines_are_empty}

-- A claim's label is of standing concepts, and is as the claim's status says; that it is empty where it is closed as empty, only
-- if sound banks were lent.
pub record Shown (b : Banks) (t : Theory) (x : Claim) : Type 0 where
  pub stands : LabelStands t.concepts x.label
  pub emptied : b ≡ sound → x.status ≡ IsEmpty → Empty t (has x.label)
  pub witnessed : x.status ≡ Inhabited → Witness t (has x.label)

-- concepts more, and the same axioms of either list
module _ (s t : Theory) (kept : Kept s) (more : List Concept) (concepts_more : t.concepts ≡ s.concepts ++ more)
    (same_roles : t.role_axioms ≡ s.role_axioms) (same_axioms : t.axioms ≡ s.axioms) where
  lies_still : (I : Interpretation) (c e : ℕ) → LiesIn I s.concepts c e → LiesIn I t.concepts c e
  lies_still I c e h = subst (λ (cs : List Concept). LiesIn I cs c e) (sym concepts_more) (grow I s.concepts more c e h)

  witness_stays : (X : ℕ → Bool) → Witness s X → Witness t X
  witness_stays X w = let I = w.interpretation in record {
    interpretation = I;
    meets = record {
      meets_roles = λ a m. w.meets.meets_roles a (subst (λ (rs : List RoleAxiom). Memᴰ a rs) same_roles m);
      meets_axioms = λ c m e l. lies_still I c e (w.meets.meets_axioms c (subst (λ (cs : List ℕ). Memᴰ c cs) same_axioms m) e l);
    };
    inhabits = record {
      element = w.inhabits.element;
      inside = w.inhabits.inside;
      in_all = λ c h. lies_still I c w.inhabits.element (w.inhabits.in_all c h);
    };
  }

  grown : Grown s t
  grown = record {
    more = more;
    concepts_more = concepts_more;
    roles_stay = λ a m. subst (λ (rs : List RoleAxiom). Memᴰ a rs) (sym same_roles) m;
    axioms_stay = λ c m. subst (λ (cs : List ℕ). Memᴰ c cs) (sym same_axioms) m;
  }

  shown_stays : (b : Banks) (x : Claim) → Shown b s x → Shown b t x
  shown_stays b x h = record {
    stands = λ c m. let l = h.stands c m in omega (arith, ap length concepts_more, length-append s.concepts more);
    emptied = λ lent e. empty_stays s t (has x.label) kept grown h.stands (h.emptied lent e);
    witnessed = λ e. witness_stays (has x.label) (h.witnessed e);
  }

-- what holds of every claim of a list
abbrev All : (Claim → Type 0) → List Claim → Type 0
All P xs = (k : ℕ) → k < length xs → P (get_or xs k blank_claim)

all_push : (P : Claim → Type 0) (xs : List Claim) (x : Claim) → All P xs → P x → All P (xs ++ x ∷ [])
all_push P xs x all h k l = ⊎_elim
    (λ (q : k < length xs). subst P (sym (get_or_append_left xs (x ∷ []) blank_claim k q)) (all k q))
    (λ (q : length xs ≤ k).
    let e : length xs ≡ k = omega (arith, length_push xs x) in
    subst P (sym (get_or_push xs x blank_claim k e)) h)
    (cases_lt k (length xs))

all_set : (P : Claim → Type 0) (xs : List Claim) (i : ℕ) (x : Claim) → All P xs → P x → All P (set xs i x)
all_set P xs i x all h k l = ⊎_elim
    (λ (e : k ≡ i).
    let q : i < length xs = omega (arith, length-set xs i x) in
    subst P (sym (ap (λ n. get_or (set xs i x) n blank_claim) e ∙ get_or-set_same xs i x blank_claim q)) h)
    (λ (n : k ≡ i → ⊥).
    let q : k < length xs = omega (arith, length-set xs i x) in
    subst P (sym (get_or-set_other xs i k x blank_claim n)) (all k q))
    (cases_eq k i)

-- phases
opened : (p : Phase) → is_unsealed p ≡ true → p ≡ Open
opened Open h = refl
opened Sealed h = let z : ◌≡◌ {A = ℕ} 0 1 = cc in absurd (omega arith)

unopened : (p : Phase) → not (is_unsealed p) ≡ true → p ≡ Open → ⊥
unopened p h e = let k = ap (λ q. not (is_unsealed q)) e in let z : ◌≡◌ {A = ℕ} 0 1 = cc in omega arith

admitted : (c : Call) (d : Docket) → refusal c d ≡ None → admits d.phase (subject_of c) ≡ true
admitted c d h =
    let admits_it = admits d.phase (subject_of c) in
    not-false admits_it (when_none (not admits_it) _ (clear (all_checks c d) h).0)

with_none : {A B : Type 0} (f : A → B) (o : Option A) → with f o ≡ None → o ≡ None
with_none f None h = refl
with_none f (Some i) h = let z : ◌≡◌ {A = ℕ} 0 1 = cc in absurd (omega arith)

-- the line that closes a claim
line_empties : (d : Docket) (c n : ℕ) → Kept (words d) → Invariant d → refusal (close_empty c n) d ≡ None
    → Empty (words d) (has (claim_at d.claims c).label)
line_empties d c n kept s h I meets i =
    let r = clear (all_checks (close_empty c n) d) h in
    let stands = leb-false (length (lines d)) n (when_none (leb (length (lines d)) n) _ r.1.1.0) in
    let y = label_of (lines d) n in
    let x = (claim_at d.claims c).label in
    let none = with_none _ (outside y x) r.1.1.1.1.0 in
    let few = kept.few_concepts in
    let short : (k : ℕ) → has y k ≡ true → k < 1024 = λ k m. let l = s.labels_stand n k stands m in omega arith in
    s.all_empty n stands I meets (inhabits_less I (words d) _ _ (λ k m. none_outside y x none k (short k m) m) i)

-- the model that closes a claim
model_witness : (t : Theory) (label : List ℕ) (m : Model) (old new : List ℕ) → Kept t → LabelStands t.concepts label
    → Judged t label m old (Ok tt) new → Witness t (has label)
model_witness t label m old new kept stands s = record {
  interpretation = described m;
  meets = s.meets;
  inhabits = record {
    element = m.point;
    inside = let p = s.formed.sized.pointed in omega arith;
    in_all = λ c h. let l = stands c h in let few = kept.few_concepts in s.point_lies c (omega arith) h;
  };
}

module _ (b : Banks) where
  -- what every call keeps: no claim is filed before sealing, and all claims are as shown
  record ClaimsShown (d : Docket) : Type 0 where
    none_yet : d.phase ≡ Open → filed d.claims ≡ []
    all_shown : All (Shown b (words d)) (filed d.claims)

  -- no claim at all
  no_claim : (e : Docket) → filed e.claims ≡ [] → ClaimsShown e
  no_claim e none = record {
    none_yet = λ o. none;
    all_shown = subst (All (Shown b (words e))) (sym none) (λ k l. absurd (omega arith));
  }

  -- a new vocabulary before sealing
  unsealed_words : (d e : Docket) → e ≡ record d { vocabulary = e.vocabulary } → is_unsealed d.phase ≡ true
      → ClaimsShown d → ClaimsShown e
  unsealed_words d e same early s = no_claim e (ap (λ (x : Docket). filed x.claims) same ∙ s.none_yet (opened d.phase early))

  -- a new vocabulary in either phase, in which claims are as they were
  new_words : (d e : Docket) → e ≡ record d { vocabulary = e.vocabulary }
      → ((x : Claim) → Shown b (words d) x → Shown b (words e) x) → ClaimsShown d → ClaimsShown e
  new_words d e same stay s =
      let list : filed e.claims ≡ filed d.claims = ap (λ (x : Docket). filed x.claims) same in
      record {
        none_yet = λ o. list ∙ s.none_yet (sym (ap (λ (x : Docket). x.phase) same) ∙ o);
        all_shown = subst (All (Shown b (words e))) (sym list) (λ k l. stay _ (s.all_shown k l));
      }

  -- the same claims and the same theory
  same_claims : (d e : Docket) → (e.phase ≡ Open → d.phase ≡ Open) → filed e.claims ≡ filed d.claims → words e ≡ words d
      → ClaimsShown d → ClaimsShown e
  same_claims d e was list same s = record {
    none_yet = λ o. list ∙ s.none_yet (was o);
    all_shown = subst (λ (t : Theory). All (Shown b t) (filed e.claims)) (sym same)
        (subst (All (Shown b (words d))) (sym list) s.all_shown);
  }

  -- other claims, in a sealed docket
  new_claims : (d e : Docket) → e ≡ record d { claims = e.claims } → not (is_unsealed d.phase) ≡ true
      → (xs : List Claim) → filed e.claims ≡ xs → All (Shown b (words d)) xs → ClaimsShown e
  new_claims d e same sealed xs is all = record {
    none_yet = λ o. absurd (unopened d.phase sealed (sym (ap (λ (x : Docket). x.phase) same) ∙ o));
    all_shown = subst (λ (t : Theory). All (Shown b t) (filed e.claims)) (sym (ap words same))
        (subst (All (Shown b (words d))) (sym is) all);
  }

  -- claim c is settled, and is as its status says
  settled : (d : Docket) (c : ℕ) (s : Status) → ClaimsShown d → c < length (filed d.claims)
      → (b ≡ sound → s ≡ IsEmpty → Empty (words d) (has (claim_at d.claims c).label))
      → (s ≡ Inhabited → Witness (words d) (has (claim_at d.claims c).label))
      → All (Shown b (words d)) (set (filed d.claims) c (record { label = (claim_at d.claims c).label; status = s }))
  settled d c s shown l e w =
      all_set (Shown b (words d)) (filed d.claims) c _ shown.all_shown
      (record { stands = (shown.all_shown c l).stands; emptied = e; witnessed = w })

  -- one case for each call that is taken
  acts_shown : (c : Call) (d e : Docket) (a : Result ℕ Refusal) → Kept (words d) → (b ≡ sound → Invariant d) → Acts c d a e
      → ClaimsShown d → ClaimsShown e
  acts_shown c d e (Err f) kept empties h s = subst ClaimsShown (sym h.1) s
  acts_shown (inclusion r q) d e (Ok i) kept empties h s = unsealed_words d e h.1.1 (admitted (inclusion r q) d h.0) s
  acts_shown (transitivity r) d e (Ok i) kept empties h s = unsealed_words d e h.1.1 (admitted (transitivity r) d h.0) s
  acts_shown (concept n p q) d e (Ok i) kept empties h s =
      let t = words d in
      let now = sym (concept_filed d.vocabulary e.vocabulary h.1.0 i h.1.2) in
      let stay = shown_stays t (record t { concepts = t.concepts ++ h.1.0 ∷ [] }) kept (h.1.0 ∷ []) refl refl refl b in
      new_words d e h.1.3 (λ x y. subst (λ (u : Theory). Shown b u x) now (stay x y)) s
  acts_shown (pair p q) d e (Ok i) kept empties h s =
      let t = words d in
      let now = sym (pair_joined d.vocabulary e.vocabulary p q kept h.1.0) in
      let stay = shown_stays t (with_pair t p q) kept [] (sym (append-nil t.concepts)) refl refl b in
      new_words d e h.1.2 (λ x y. subst (λ (u : Theory). Shown b u x) now (stay x y)) s
  acts_shown («axiom» c) d e (Ok i) kept empties h s = unsealed_words d e h.1.1 (admitted («axiom» c) d h.0) s
  acts_shown seal d e (Ok i) kept empties h s =
      same_claims d e (λ o. opened d.phase (admitted seal d h.0)) (ap (λ (x : Docket). filed x.claims) h.1.1) (ap words h.1.1) s
  acts_shown (line k f) d e (Ok i) kept empties h s =
      let phase : e.phase ≡ d.phase = ap (λ (x : Docket). x.phase) h.1.2 in
      same_claims d e (λ o. sym phase ∙ o) (ap (λ (x : Docket). filed x.claims) h.1.2) (ap words h.1.2) s
  acts_shown (claim bytes) d e (Ok i) kept empties h s =
      let ms = numbers bytes in
      let none = with_none _ (absent_at (count d) ms) (clear (all_checks (claim bytes) d) h.0).1.1.0 in
      new_claims d e h.1.1 (admitted (claim bytes) d h.0) _ h.1.0.2
      (all_push (Shown b (words d)) (filed d.claims) (record { label = row ms; status = Unsettled }) s.all_shown (record {
        stands = λ c m. none_absent (count d) ms none c (in_row ms c m);
        emptied = λ lent q. let z : ◌≡◌ {A = ℕ} 0 1 = cc in absurd (omega arith);
        witnessed = λ q. let z : ◌≡◌ {A = ℕ} 0 1 = cc in absurd (omega arith);
      }))
  acts_shown (close_empty c n) d e (Ok i) kept empties h s =
      new_claims d e h.1.2 (admitted (close_empty c n) d h.0) _ h.1.0.1
      (settled d c IsEmpty s h.1.0.0
      (λ lent q. line_empties d c n kept (empties lent) h.0)
      (λ q. let z : ◌≡◌ {A = ℕ} 0 1 = cc in absurd (omega arith)))
  acts_shown (close_inhabited c m old new) d e (Ok i) kept empties h s =
      new_claims d e h.1.2 (admitted (close_inhabited c m old new) d h.0.0) _ h.1.0.1
      (settled d c Inhabited s h.1.0.0
      (λ lent q. let z : ◌≡◌ {A = ℕ} 0 1 = cc in absurd (omega arith))
      (λ q. model_witness (words d) (claim_at d.claims c).label m old new kept (s.all_shown c h.1.0.0).stands h.0.1))

  new_shown : (d : Docket) → Fresh d → ClaimsShown d
  new_shown d f = no_claim d f.no_claim

  still_shown : (c : Call) (d e : Docket) (a : Result ℕ Refusal) → LendsCall b c → Reached b d → Acts c d a e
      → ClaimsShown d → ClaimsShown e
  still_shown c d e a lent r h =
      acts_shown c d e a (reached_kept b d r) (λ same. reached_invariant d (subst (λ (x : Banks). Reached x d) same r)) h

  reached_shown : (d : Docket) → Reached b d → ClaimsShown d
  reached_shown = reached_has b ClaimsShown new_shown still_shown

claim_labels_stand : ClaimLabelsStand
claim_labels_stand b d r c l = ((reached_shown b d r).all_shown c l).stands

empty_claims_are_empty : EmptyClaimsAreEmpty
empty_claims_are_empty d r c l empty = ((reached_shown sound d r).all_shown c l).emptied refl empty

inhabited_claims_have_an_element : InhabitedClaimsHaveAnElement
inhabited_claims_have_an_element b d r c l inhabited = ((reached_shown b d r).all_shown c l).witnessed inhabited

pub inhabited_claims_have_no_line : InhabitedClaimsHaveNoLine
inhabited_claims_have_no_line d r c l inhabited k m within =
    let w = inhabited_claims_have_an_element sound d r c l inhabited in
    lines_are_empty d r k m w.interpretation w.meets (inhabits_less w.interpretation (words d) _ _ within w.inhabits)

pub claims_are_right : ClaimsAreRight
claims_are_right = record {
  claim_labels_stand = claim_labels_stand;
  empty_claims_are_empty = empty_claims_are_empty;
  inhabited_claims_have_an_element = inhabited_claims_have_an_element;
}
