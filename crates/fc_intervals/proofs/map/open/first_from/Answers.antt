use Rattle.std.proofs.Common.{sym}
use Rattle.fc_map.specs.Entries.{entries}
use Rattle.fc_intervals.specs.declared.stretch.Stretch.{Stretch}
use Rattle.fc_intervals.proofs.Open.{walked_on}
use Rattle.fc_intervals.proofs.Walks.{begins_at, begins_there}
use Rattle.fc_intervals.proofs.map.open.first_from.Goals as goal

pub returns-in-Some : goal.returns-in-Some
returns-in-Some g c =
    let found : g.row.K.Denot × Stretch g.row.K.Denot g.row.V.Denot = (c.in-Some.start.now, c.in-Some._stretch.now) in
    walked_on g.K.Ord.cmp g.met.K.Ord.total c.args.from found.0 (entries c.args.map.now)
    (begins_at g.K.Ord.cmp g.met.K.Ord.total c.args.from (entries c.args.map.now) found c.requires (sym c.in-Some.ensures.pair))

pub returns-in-None : goal.returns-in-None
returns-in-None g c =
    walked_on g.K.Ord.cmp g.met.K.Ord.total c.args.from c.args.from (entries c.args.map.now)
    (begins_there g.K.Ord.cmp g.met.K.Ord.total c.args.from (entries c.args.map.now) c.requires (sym c.in-None.ensures.pair))
