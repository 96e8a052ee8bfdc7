use Rattle.fc_map.specs.Entries.{entries}
use Rattle.fc_set.specs.Items.{items}
use Rattle.fc_index.proofs.Edged.{walked_by_key}
use Rattle.fc_index.proofs.table.Table.by_first.Goals as goal

pub returns : goal.returns
returns g c =
    record {
      rows = walked_by_key g.A.Ord.cmp g.I.Ord.cmp (λ r. r.first) g.met.A.Ord.total (entries c.self.inside.rows) (items c.self.inside.firsts) c.self.invariant.0
          c.items_between.ensures.ascending c.args.bounds.0 c.args.bounds.1 c.args.self.now c.items_between.result c.self.view_is c.items_between.ensures.items;
    }
