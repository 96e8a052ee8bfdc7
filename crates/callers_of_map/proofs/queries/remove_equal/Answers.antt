use Rattle.std.proofs.Common.{◌∙◌}
use Rattle.fc_base.proofs.Laws.{cut_query}
use Rattle.fc_map.specs.Entries.{entries}
use Rattle.callers_of_map.proofs.queries.remove_equal.Goals as goal

pub returns-clause-rest : goal.returns-clause-rest
returns-clause-rest g c =
    c.remove.ensures.rest ∙ cut_query g.K.Ord.cmp g.Q.Query.order (entries c.args.map.now) c.args.key.now (g.Q.Query.sought c.args.query) g.met.Q.Query.fits
    c.requires
