use Rattle.std.proofs.Common.{◌≡◌, ◌∙◌, true, sym, ap}
use Rattle.std.specs.Ordering.{is_lt}
use Rattle.fc_map.specs.Entries.{entries}
use Rattle.fc_intervals.specs.declared.stretch.Stretch.{Stretch}
use Rattle.fc_intervals.proofs.Order.{is_less}
use Rattle.fc_intervals.proofs.Walks.{begins_at, begins_there, walked}
use Rattle.fc_intervals.proofs.steps.start_within.Goals as goal

pub returns-in-Some : goal.returns-in-Some
returns-in-Some g c =
    let found : g.row.K.Denot × Stretch g.row.K.Denot g.row.V.Denot = (c.in-Some.start.now, c.in-Some._stretch.now) in
    let range : is_lt (g.K.Ord.cmp c.args.from c.args.to) ≡ true = ap is_lt (sym c.compare.ensures.value) ∙ sym c.is_lt.ensures ∙ c.if-not-is_lt.false in
    walked g.K.Ord.cmp g.met.K.Ord.total c.args.from found.0 c.args.to (entries c.args.map.now) (is_less _ range)
    (begins_at g.K.Ord.cmp g.met.K.Ord.total c.args.from (entries c.args.map.now) found c.requires (sym c.in-Some.ensures.pair))

pub returns-in-None : goal.returns-in-None
returns-in-None g c =
    let range : is_lt (g.K.Ord.cmp c.args.from c.args.to) ≡ true = ap is_lt (sym c.compare.ensures.value) ∙ sym c.is_lt.ensures ∙ c.if-not-is_lt.false in
    walked g.K.Ord.cmp g.met.K.Ord.total c.args.from c.args.from c.args.to (entries c.args.map.now) (is_less _ range)
    (begins_there g.K.Ord.cmp g.met.K.Ord.total c.args.from (entries c.args.map.now) c.requires (sym c.in-None.ensures.pair))
