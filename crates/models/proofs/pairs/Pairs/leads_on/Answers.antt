use Rattle.std.proofs.Common.{T, sym, subst}
use Rattle.models.proofs.pairs.Pairs.leads_on.Goals as goal

pub returns : goal.returns
returns c =
    let within = c.is_within.ensures in (
      (λ t z h u. subst T (c.row-2.ensures.leads_to z h) (within.0 t z h (subst T (sym (c.row.ensures.leads_to z h)) u))),
      λ f. within.1 (λ z h u. subst T (sym (c.row-2.ensures.leads_to z h)) (f z h (subst T (c.row.ensures.leads_to z h) u))),
    )
