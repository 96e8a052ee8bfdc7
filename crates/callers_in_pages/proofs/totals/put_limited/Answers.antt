use Rattle.std.proofs.Common.{◌≤◌, All, sym, subst}
use Rattle.fallible_collections.specs.Words.{entries}
use Rattle.fallible_collections.proofs.Laws.{all_put}
use Rattle.callers_in_pages.proofs.totals.put_limited.Goals as goal

pub returns : goal.returns
returns g c =
    let amounts = entries c.args.amounts.now in
    subst (All (λ e. e.1 ≤ c.args.limit)) (sym c.in_ok-try_insert.ensures.put)
    (all_put g.K.Ord.cmp (λ e. e.1 ≤ c.args.limit) amounts c.args.key c.args.amount c.requires.all c.requires.one)
