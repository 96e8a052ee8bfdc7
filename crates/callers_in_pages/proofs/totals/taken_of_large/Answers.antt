use Rattle.std.proofs.Common.{◌∙◌, ap, filter, nat_le}
use Rattle.fallible_collections.specs.Words.{entries}
use Rattle.fallible_collections.proofs.Laws.{filter_cut}
use Rattle.callers_in_pages.proofs.totals.taken_of_large.Goals as goal

pub returns : goal.returns
returns g c = ap (filter (λ e. nat_le c.args.limit e.1)) c.remove.ensures.rest
    ∙ filter_cut g.K.Ord.cmp (λ e. nat_le c.args.limit e.1) (entries c.args.amounts.now) c.args.key.now
