use Rattle.std.proofs.Common.{◌∙◌, ap}
use Rattle.fallible_collections.specs.Words.{items, item_at}
use Rattle.fallible_collections.proofs.Laws.{item_at_with_other}
use Rattle.callers_in_pages.proofs.totals.item_beside.Goals as goal

pub returns-clause-found : goal.returns-clause-found
returns-clause-found g c =
    let cmp = g.T.Ord.cmp in
    c.copied.ensures ∙ c.get.ensures.item ∙ ap (λ s. item_at cmp s c.args.other.now) c.in_ok-try_insert.ensures.put
    ∙ item_at_with_other cmp (items c.args.set.now) c.args.item c.args.other.now g.met.T.Ord.total c.requires
