-- What new dockets have and every call on a reached docket keeps, every docket that is reached has.
use Rattle.std.proofs.Common.{ℕ, [], ◌∷◌, Result, refl}
use Rattle.refusals.specs.declared.Refusal.{Refusal}
use Rattle.docket.specs.declared.Docket.{Docket}
use Rattle.docket.specs.Dockets.{Fresh}
use Rattle.docket.specs.Calls.{Call, Acts}
use Rattle.docket.specs.Runs.{called, Banks, LendsCall, Reached}
use Rattle.docket.proofs.Running.{reached_keeps, reached_more}

pub reached_has : (b : Banks) (P : Docket → Type 0) → ((d : Docket) → Fresh d → P d)
    → ((c : Call) (d e : Docket) (a : Result ℕ Refusal) → LendsCall b c → Reached b d → Acts c d a e → P d → P e)
    → (d : Docket) → Reached b d → P d
reached_has b P new step d r = (reached_keeps b (λ (x : Docket). Reached b x × P x) began acted d r).1
  where
    began : (x : Docket) → Fresh x → Reached b x × P x
    began x f = (record { began = x; fresh = f; history = []; ran = refl }, new x f)

    acted : (c : Call) (x e : Docket) (a : Result ℕ Refusal) → LendsCall b c → Acts c x a e
        → Reached b x × P x → Reached b e × P e
    acted c x e a l h p = (reached_more b (called c a ∷ []) x e p.0 (e, l, h, refl), step c x e a l p.0 h p.1)
