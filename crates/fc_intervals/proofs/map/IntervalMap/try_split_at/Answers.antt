use Rattle.std.proofs.Common.{ap}
use Rattle.std.specs.Ordering.{is_le}
use Rattle.std.proofs.lemmas.Cmp.{tied_itself}
use Rattle.fc_intervals.proofs.Put.{sure_rest}
use Rattle.fc_intervals.proofs.map.IntervalMap.try_split_at.Goals as goal

pub cut_over-requires-clause-range : goal.cut_over-requires-clause-range
cut_over-requires-clause-range g c = ap is_le (tied_itself g.met.K.Ord.total c.args.at)

pub returns-clause-sure : goal.returns-clause-sure
returns-clause-sure g c = sure_rest g.K.Ord.cmp g.V.TryClone.may_refuse c.args.self.now c.args.at c.cut_over.result c.cut_over.ensures.error
