use Rattle.std.proofs.Common.{ap}
use Rattle.fc_set.specs.Items.{items}
use Rattle.fc_index.specs.Rows.{key_then_id}
use Rattle.fc_index.proofs.Listed.{key_order_total, taken_back}
use Rattle.fc_index.proofs.steps.put_keys.Goals as goal

pub returns-in-Err-try_insert-clause-unchanged : goal.returns-in-Err-try_insert-clause-unchanged
returns-in-Err-try_insert-clause-unchanged g c = (
  taken_back (key_then_id g.A.Ord.cmp g.I.Ord.cmp) (key_order_total g.A.Ord.cmp g.I.Ord.cmp g.met.A.Ord.total g.met.I.Ord.total) (items c.args.firsts.now)
      (c.args.first, c.args.id) c.in-Ok.is_new _ _ c.requires c.in-Ok.ensures.new c.in-Ok.ensures.put c.take_back.ensures,
  ap items c.in-Err-try_insert.ensures.unchanged,
)
