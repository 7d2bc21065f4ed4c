-- What every event keeps, every docket that is reached has.
use Rattle.std.proofs.Common.{ℕ, List, [], ◌∷◌, ◌++◌, Result, sym, refl, subst}
use Rattle.refusals.specs.declared.Refusal.{Refusal}
use Rattle.docket.specs.declared.Docket.{Docket}
use Rattle.docket.specs.Dockets.{Fresh}
use Rattle.docket.specs.Calls.{Call, inclusion, transitivity, concept, pair, «axiom», seal, line, claim, close_empty, close_inhabited, Acts}
use Rattle.docket.specs.Runs.{below, transitive, mate, tally, first_line, conclusion, Event, called, asked, Happens, Banks, any, sound, only, Lends, LendsCall, LendsEvent, Ran, Reached, StaysReached, BanksWiden}
use Rattle.calculus.specs.Calculi.{Calculus, SoundCalculus}

module _ (b : Banks) where
  pub ran_keeps : (P : Docket → Type 0) → ((x : Event) (d e : Docket) → LendsEvent b x → Happens x d e → P d → P e)
      → (xs : List Event) (d e : Docket) → Ran b d xs e → P d → P e
  ran_keeps P step [] d e r p = subst P (sym r) p
  ran_keeps P step (x ∷ xs) d e r p = ran_keeps P step xs r.0 e r.3 (step x d r.0 r.1 r.2 p)

  -- a run after a run
  pub ran_on : (xs ys : List Event) (d e f : Docket) → Ran b d xs e → Ran b e ys f → Ran b d (xs ++ ys) f
  ran_on [] ys d e f r s = subst (λ (x : Docket). Ran b x ys f) r s
  ran_on (x ∷ xs) ys d e f r s = (r.0, r.1, r.2, ran_on xs ys r.0 e f r.3 s)

  -- what new dockets have and every call keeps
  pub reached_keeps : (P : Docket → Type 0) → ((d : Docket) → Fresh d → P d)
      → ((c : Call) (d e : Docket) (a : Result ℕ Refusal) → LendsCall b c → Acts c d a e → P d → P e) → (d : Docket) → Reached b d → P d
  reached_keeps P new step d r = ran_keeps P each r.history r.began d r.ran (new r.began r.fresh)
    where
      each : (x : Event) (m e : Docket) → LendsEvent b x → Happens x m e → P m → P e
      each (called c a) m e l h p = step c m e a l h p
      each (asked q) m e l h p = subst P (sym h) p

  pub reached_more : (xs : List Event) (d e : Docket) → Reached b d → Ran b d xs e → Reached b e
  reached_more xs d e r s = record { began = r.began; fresh = r.fresh; history = r.history ++ xs; ran = ran_on r.history xs r.began d e r.ran s }

-- a call is one event more
pub stays : {c : Call} {d e : Docket} {a : Result ℕ Refusal} → Acts c d a e → StaysReached c d a e
stays {c} {d} {e} {a} h = record { reached = λ b l r. reached_more b (called c a ∷ []) d e r (e, l, h, refl) }

-- other banks that these are among
module _ (b b' : Banks) (among : (k : Calculus) → Lends b k → Lends b' k) where
  event_lends : (x : Event) → LendsEvent b x → LendsEvent b' x
  event_lends (called (inclusion r s) a) l = tt
  event_lends (called (transitivity r) a) l = tt
  event_lends (called (concept t x y) a) l = tt
  event_lends (called (pair x y) a) l = tt
  event_lends (called («axiom» c) a) l = tt
  event_lends (called seal a) l = tt
  event_lends (called (line k f) a) l = among k l
  event_lends (called (claim bytes) a) l = tt
  event_lends (called (close_empty c n) a) l = tt
  event_lends (called (close_inhabited c m old new) a) l = tt
  event_lends (asked (below r s)) l = tt
  event_lends (asked (transitive r)) l = tt
  event_lends (asked (mate c)) l = tt
  event_lends (asked tally) l = tt
  event_lends (asked (first_line bytes)) l = tt
  event_lends (asked (conclusion k f)) l = among k l

  ran_wide : (xs : List Event) (d e : Docket) → Ran b d xs e → Ran b' d xs e
  ran_wide [] d e r = r
  ran_wide (x ∷ xs) d e r = (r.0, event_lends x r.1, r.2, ran_wide xs r.0 e r.3)

  pub reached_wide : (d : Docket) → Reached b d → Reached b' d
  reached_wide d r = record { began = r.began; fresh = r.fresh; history = r.history; ran = ran_wide r.history r.began d r.ran }

pub banks_widen : BanksWiden
banks_widen = record {
  to_any = λ b. reached_wide b any (λ k l. tt);
  to_sound = λ k d s. reached_wide (only k) sound (λ j e. subst SoundCalculus (sym e) s) d;
}
