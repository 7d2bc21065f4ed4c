use Rattle.std.proofs.Common.{◌≡◌, ℕ, zero, suc, Bool, true, false, cond, ltb, get_or, replicate, None, Option, refl}
use Rattle.vocabulary.proofs.mates.Mates.new.Goals as goal

same_there : (n c : ℕ) (o : Option ℕ) → get_or (replicate n o) c o ≡ o
same_there zero c o = refl
same_there (suc n) zero o = refl
same_there (suc n) (suc c) o = same_there n c o

within : (b : Bool) (o : Option ℕ) → o ≡ None → cond b o None ≡ None
within true o h = h
within false o h = refl

pub returns : goal.returns
returns c = λ x. within (ltb x 1024) (get_or (replicate 1024 None) x None) (same_there 1024 x None)
