use Rattle.std.proofs.Common.{sym, ap, ◌∙◌}
use Rattle.fc_map.specs.Entries.{entries}
use Rattle.fc_set.proofs.ItemFacts.{keys, with_item_keys, ascending_keys, new_keys, none_keys, some_keys}
use Rattle.fc_set.proofs.set.BTreeSet.insert_reserved_counted.Goals as goal

pub returns-clause-new : goal.returns-clause-new
returns-clause-new g c = rw (← c.self.view_is) (new_keys g.T.Ord.cmp (entries c.self.inside.map) c.args.item _ _ c.is_none.ensures
    c.insert_reserved_counted.ensures.old)

pub returns-clause-put : goal.returns-clause-put
returns-clause-put g c = rw (← c.self.view_is) (ap keys c.insert_reserved_counted.ensures.put
    ∙ sym (with_item_keys g.T.Ord.cmp (entries c.self.inside.map) c.args.item tt))

pub returns-clause-ascending : goal.returns-clause-ascending
returns-clause-ascending g c = ascending_keys g.T.Ord.cmp _ c.insert_reserved_counted.ensures.ascending

pub returns-clause-no_move : goal.returns-clause-no_move
returns-clause-no_move g c = rw (← c.self.view_is) (λ i. c.insert_reserved_counted.ensures.no_move
    (some_keys g.T.Ord.cmp (entries c.self.inside.map) c.args.item i))

pub returns-clause-moved : goal.returns-clause-moved
returns-clause-moved g c =
    rw (← c.self.view_is) (λ n. c.insert_reserved_counted.ensures.moved (none_keys g.T.Ord.cmp (entries c.self.inside.map) c.args.item n))
