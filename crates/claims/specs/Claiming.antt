-- Claims, how they are settled, and how they are counted.
use Rattle.std.specs.Prelude.{◌≡◌, ℕ, ◌<◌, ◌≤◌, Bool, true, false, List, [], ◌∷◌, ◌++◌, length, replicate, Some, None, Option, count_by, slice_index_or, slice_set}
use Rattle.claims.specs.declared.Status.{Status}
use Rattle.claims.specs.declared.Status.TheVariants.{Open, Empty, Inhabited}
use Rattle.claims.specs.declared.Claim.{Claim}
use Rattle.claims.specs.declared.Claims.{Claims}

-- the claims, by number
abbrev pub filed : Claims → List Claim
filed x = x.list

abbrev pub blank_claim : Claim
blank_claim = record { label = replicate 16 0; status = Open }

abbrev pub claim_at : Claims → ℕ → Claim
claim_at x k = slice_index_or (filed x) k blank_claim

-- x becomes y as a claim with this label is filed: it stands at the end and is open
abbrev pub ClaimFiled : Claims → Claims → List ℕ → Option ℕ → Type 0
ClaimFiled x y label (Some i) =
    (i ≡ length (filed x)) × (length (filed x) < 256)
    × (filed y ≡ filed x ++ record { label = label; status = Open } ∷ [])
    × (y ≡ record x { list = filed y })
ClaimFiled x y label None = (256 ≤ length (filed x)) × (y ≡ x)

-- x becomes y as claim k is settled
abbrev pub Settled : Claims → Claims → ℕ → Status → Bool → Type 0
Settled x y k s true =
    (k < length (filed x))
    × (filed y ≡ slice_set (filed x) k (record { label = (claim_at x k).label; status = s }))
    × (y ≡ record x { list = filed y })
Settled x y k s false = (length (filed x) ≤ k) × (y ≡ x)

-- whether a claim is neither empty nor inhabited yet
abbrev pub is_open : Status → Bool
is_open Open = true
is_open status = false

-- whether two statuses are the same
abbrev pub same_status : Status → Status → Bool
same_status Open Open = true
same_status Empty Empty = true
same_status Inhabited Inhabited = true
same_status s t = false

-- how many claims have this status
abbrev pub tallied : Status → List Claim → ℕ
tallied s cs = count_by (λ c. same_status c.status s) cs
