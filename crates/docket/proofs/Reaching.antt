-- Every docket that is reached has a theory that filing and pairing can make.
use Rattle.std.proofs.Common.{◌≡◌, ℕ, ◌<◌, ◌≤◌, false, leb, Ok, Err, Result, sym, ap, subst, arith}
use Rattle.std.proofs.lemmas.Bool.{leb-false}
use Rattle.refusals.specs.declared.Refusal.{Refusal}
use Rattle.refusals.proofs.Clearing.{clear, when_none}
use Rattle.register.specs.Registers.{room}
use Rattle.logic.specs.declared.concept.Concept.{Concept}
use Rattle.logic.specs.declared.concept.Concept.TheVariants.{Top, Bottom, Name, NotName, And, Or, Only, Exists}
use Rattle.logic.specs.declared.role.RoleAxiom.TheVariants.{Inclusion, Transitivity}
use Rattle.logic.specs.Keeping.{InRange, Kept}
use Rattle.logic.proofs.Keeping.{kept_new, kept_role_axiom, kept_concept, kept_pair, kept_axiom}
use Rattle.logic.proofs.Pairings.{pairable_is_decided}
use Rattle.vocabulary.specs.declared.Vocabulary.{Vocabulary}
use Rattle.vocabulary.specs.Vocabularies.{theory}
use Rattle.vocabulary.proofs.Keeping.{role_axiom_filed, concept_filed, paired, axiom_filed}
use Rattle.docket.specs.declared.Docket.{Docket}
use Rattle.docket.specs.Fields.{use_of_first, out_of_range, Written}
use Rattle.docket.specs.Dockets.{count, Fresh}
use Rattle.docket.specs.Calls.{Call, inclusion, transitivity, concept, pair, «axiom», seal, line, claim, close_empty, close_inhabited, all_checks, Acts}
use Rattle.docket.specs.Runs.{Banks, Reached}
use Rattle.docket.proofs.Running.{reached_keeps}

-- what is written within its range is in range
in_range : (t a b : ℕ) (k : Concept) → Written t a b k → out_of_range (use_of_first t) a ≡ false → InRange k
in_range t a b Top w h = tt
in_range t a b Bottom w h = tt
in_range t a b (Name n) w h = subst (λ (x : ℕ). x < 1024) (sym w.has_first) (leb-false 1024 a (rw (← w.has_tag) at h))
in_range t a b (NotName n) w h = subst (λ (x : ℕ). x < 1024) (sym w.has_first) (leb-false 1024 a (rw (← w.has_tag) at h))
in_range t a b (And c d) w h = tt
in_range t a b (Or c d) w h = tt
in_range t a b (Only r c) w h = subst (λ (x : ℕ). x < 128) (sym w.has_first) (leb-false 128 a (rw (← w.has_tag) at h))
in_range t a b (Exists r c) w h = subst (λ (x : ℕ). x < 128) (sym w.has_first) (leb-false 128 a (rw (← w.has_tag) at h))

-- the theory is kept, and there is room for 1,024 concepts at most
pub record Bounded (v : Vocabulary) : Type 0 where
  pub kept : Kept (theory v)
  pub small : room v.concepts ≤ 1024

-- the vocabulary stays
same : (v w : Vocabulary) → w ≡ v → Bounded v → Bounded w
same v w e b = subst Bounded (sym e) b

pub acts_bounded : (c : Call) (d e : Docket) (a : Result ℕ Refusal) → Acts c d a e → Bounded d.vocabulary → Bounded e.vocabulary
acts_bounded c d e (Err f) h b = same d.vocabulary e.vocabulary (ap (λ (x : Docket). x.vocabulary) h.1) b
acts_bounded (inclusion r s) d e (Ok i) h b =
    let k = clear (all_checks (inclusion r s) d) h.0 in
    record {
      kept = subst Kept (sym (role_axiom_filed d.vocabulary e.vocabulary (Inclusion r s) i h.1.0)) (kept_role_axiom (theory d.vocabulary) (Inclusion r s) b.kept
          (leb-false 128 r (when_none (leb 128 r) _ k.1.0), leb-false 128 s (when_none (leb 128 s) _ k.1.1.0)) h.1.0.0.1);
      small = subst (λ (n : ℕ). n ≤ 1024) (sym (ap (λ (w : Vocabulary). room w.concepts) h.1.0.1)) b.small;
    }
acts_bounded (transitivity r) d e (Ok i) h b =
    let k = clear (all_checks (transitivity r) d) h.0 in
    record {
      kept = subst Kept (sym (role_axiom_filed d.vocabulary e.vocabulary (Transitivity r) i h.1.0)) (kept_role_axiom (theory d.vocabulary) (Transitivity r) b.kept
          (leb-false 128 r (when_none (leb 128 r) _ k.1.0)) h.1.0.0.1);
      small = subst (λ (n : ℕ). n ≤ 1024) (sym (ap (λ (w : Vocabulary). room w.concepts) h.1.0.1)) b.small;
    }
acts_bounded (concept n x y) d e (Ok i) h b =
    let k = clear (all_checks (concept n x y) d) h.0 in
    let filed = h.1.2 in
    let l = filed.0.1 in
    let s = b.small in
    record {
      kept = subst Kept (sym (concept_filed d.vocabulary e.vocabulary h.1.0 i filed)) (kept_concept (theory d.vocabulary) h.1.0 b.kept
          (in_range n x y h.1.0 h.1.1 (when_none (out_of_range (use_of_first n) x) _ k.1.1.0)) filed.0.2 (omega arith));
      small = subst (λ (n : ℕ). n ≤ 1024) (sym filed.0.4) b.small;
    }
acts_bounded (pair x y) d e (Ok i) h b =
    let p = (pairable_is_decided (theory d.vocabulary) x y).0 h.1.0.0 in
    let few = b.kept.few_concepts in
    let lx : x < 1024 = omega (arith, p.opposed.this_at.0) in
    let ly : y < 1024 = omega (arith, p.opposed.that_at.0) in
    record {
      kept = subst Kept (sym (paired d.vocabulary e.vocabulary x y lx ly h.1.0)) (kept_pair (theory d.vocabulary) x y b.kept p);
      small = subst (λ (n : ℕ). n ≤ 1024) (sym (ap (λ (w : Vocabulary). room w.concepts) h.1.0.2)) b.small;
    }
acts_bounded («axiom» c) d e (Ok i) h b =
    let k = clear (all_checks («axiom» c) d) h.0 in
    record {
      kept = subst Kept (sym (axiom_filed d.vocabulary e.vocabulary c i h.1.0)) (kept_axiom (theory d.vocabulary) c b.kept
          (leb-false (count d) c (when_none (leb (count d) c) _ k.1.0)) h.1.0.0.1);
      small = subst (λ (n : ℕ). n ≤ 1024) (sym (ap (λ (w : Vocabulary). room w.concepts) h.1.0.1)) b.small;
    }
acts_bounded seal d e (Ok i) h b = same d.vocabulary e.vocabulary (ap (λ (x : Docket). x.vocabulary) h.1.1) b
acts_bounded (line k f) d e (Ok i) h b = same d.vocabulary e.vocabulary (ap (λ (x : Docket). x.vocabulary) h.1.2) b
acts_bounded (claim bytes) d e (Ok i) h b = same d.vocabulary e.vocabulary (ap (λ (x : Docket). x.vocabulary) h.1.1) b
acts_bounded (close_empty c n) d e (Ok i) h b = same d.vocabulary e.vocabulary (ap (λ (x : Docket). x.vocabulary) h.1.2) b
acts_bounded (close_inhabited c m old new) d e (Ok i) h b = same d.vocabulary e.vocabulary (ap (λ (x : Docket). x.vocabulary) h.1.2) b

pub reached_bounded : (b : Banks) (d : Docket) → Reached b d → Bounded d.vocabulary
reached_bounded b d r = reached_keeps b (λ (x : Docket). Bounded x.vocabulary) new (λ c x y a l h. acts_bounded c x y a h) d r
  where
    new : (x : Docket) → Fresh x → Bounded x.vocabulary
    new x f = let n = f.nothing_said in record { kept = kept_new (theory x.vocabulary) n.no_role_axiom n.no_concept n.no_mate n.no_axiom; small = f.concept_room.1 }

pub reached_kept : (b : Banks) (d : Docket) → Reached b d → Kept (theory d.vocabulary)
reached_kept b d r = (reached_bounded b d r).kept
