-- The law of a bank from the laws of its rules.
use Rattle.std.specs.Prelude.{◌≡◌, ℕ, ◌≤◌, Bool, true, false, cond, ◌&&◌, ◌||◌, ◌==◌, refl}
use Rattle.std.proofs.lemmas.Bool.{false≢true, and_parts, and_from}
use Rattle.logic.specs.Theories.{Theory}
use Rattle.calculus.specs.Schemas.{Schema, Sound, MayConclude, Lawful}
use Rattle.calculus.specs.Calculi.{Calculus, LawfulCalculus, alone, beside}

-- a step that is taken on a condition is as sound as it is
only_sound : (z : Bool) (t : Theory) (X : ℕ → Bool) (a : Bool) (n : ℕ) (f : ℕ → ℕ → Bool)
    → Sound t X a n f → Sound t X (z && a) n (λ i c. z && f i c)
only_sound true t X a n f s = s
only_sound false t X a n f s = λ I kept meets h. absurd (false≢true h)

pub alone_lawful : (r : Schema) → Lawful r → LawfulCalculus (alone r)
alone_lawful r l = record {
  is_sound = record {
    few = λ n. l.few;
    sound =
        λ n t on X. only_sound (n == r.number) t X (r.applies t on X) r.cites (r.concludes t on X) (l.sound t on X);
  };
  known = λ n t on X h. (and_parts (n == r.number) (r.applies t on X) h).0;
  concluding = λ n t on X i c h.
      let p = and_parts (n == r.number) (r.concludes t on X i c) h in
      let m = l.concluding t on X i c p.1 in
      record {
        step_applies = and_from (n == r.number) (r.applies t on X) p.0 m.step_applies;
        has_conclusion = m.has_conclusion;
        stands = m.stands;
      };
}

-- what holds of either holds of the one that is chosen
either_few : (z : Bool) (a b : ℕ) → a ≤ 2 → b ≤ 2 → cond z a b ≤ 2
either_few true a b h k = h
either_few false a b h k = k

either_known : (z y a b : Bool) → (b ≡ true → y ≡ true) → cond z a b ≡ true → (z || y) ≡ true
either_known true y a b f h = refl
either_known false y a b f h = f h

pub either_taken : (z a b : Bool) (P : Type 0) → (a ≡ true → P) → (b ≡ true → P) → cond z a b ≡ true → P
either_taken true a b P f g h = f h
either_taken false a b P f g h = g h

either_concluding : (z : Bool) (t : Theory) (a a' : Bool) (n n' : ℕ) (f f' : Bool) (i c : ℕ)
    → (f ≡ true → MayConclude t a n i c) → (f' ≡ true → MayConclude t a' n' i c) → cond z f f' ≡ true
    → MayConclude t (cond z a a') (cond z n n') i c
either_concluding true t a a' n n' f f' i c l r h = l h
either_concluding false t a a' n n' f f' i c l r h = r h

either_sound : (z : Bool) (t : Theory) (X : ℕ → Bool) (a a' : Bool) (n n' : ℕ) (f f' : ℕ → ℕ → Bool)
    → Sound t X a n f → Sound t X a' n' f'
    → Sound t X (cond z a a') (cond z n n') (λ i c. cond z (f i c) (f' i c))
either_sound true t X a a' n n' f f' l r = l
either_sound false t X a a' n n' f f' l r = r

pub beside_lawful : (a b : Calculus) → LawfulCalculus a → LawfulCalculus b → LawfulCalculus (beside a b)
beside_lawful a b la lb = record {
  is_sound = record {
    few = λ n. either_few (a.has n) (a.cites n) (b.cites n) (la.is_sound.few n) (lb.is_sound.few n);
    sound =
        λ n t on X. either_sound (a.has n) t X _ _ _ _ _ _ (la.is_sound.sound n t on X) (lb.is_sound.sound n t on X);
  };
  known =
      λ n t on X. either_known (a.has n) (b.has n) (a.applies n t on X) (b.applies n t on X) (lb.known n t on X);
  concluding =
      λ n t on X i c. either_concluding (a.has n) t _ _ _ _ _ _ i c (la.concluding n t on X i c) (lb.concluding n t on X i c);
}
