use Rattle.std.proofs.Common.{subst, sym, ap, ◌∙◌}
use Rattle.std.specs.Option.{option_map}
use Rattle.fc_map.specs.Entries.{entries}
use Rattle.fc_map.specs.Fewest.{HasFewestMoves}
use Rattle.fc_set.proofs.ItemFacts.{keys, item_at_keys, without_keys, ascending_keys, none_keys, some_keys}
use Rattle.fc_set.proofs.set.BTreeSet.take_counted.Goals as goal

pub returns-clause-item : goal.returns-clause-item
returns-clause-item g c = rw (← c.self.view_is) (c.item_of.ensures ∙ ap (option_map (λ e. e.0)) c.take.ensures.pair
    ∙ sym (item_at_keys g.Q.Query.order (entries c.self.inside.map) (g.Q.Query.sought c.args.item)))

pub returns-clause-rest : goal.returns-clause-rest
returns-clause-rest g c = rw (← c.self.view_is) (ap keys c.take.ensures.rest
    ∙ sym (without_keys g.Q.Query.order (entries c.self.inside.map) (g.Q.Query.sought c.args.item)))

pub returns-clause-absent : goal.returns-clause-absent
returns-clause-absent g c = rw (← c.self.view_is) (λ n. c.take.ensures.absent
    (none_keys g.Q.Query.order (entries c.self.inside.map) (g.Q.Query.sought c.args.item) n))

pub returns-clause-ascending : goal.returns-clause-ascending
returns-clause-ascending g c = ascending_keys g.T.Ord.cmp _ c.take.ensures.ascending

pub returns-clause-no_move : goal.returns-clause-no_move
returns-clause-no_move g c = rw (← c.self.view_is) (λ n. c.take.ensures.no_move
    (none_keys g.Q.Query.order (entries c.self.inside.map) (g.Q.Query.sought c.args.item) n))

pub returns-clause-moved : goal.returns-clause-moved
returns-clause-moved g c = rw (← c.self.view_is) (λ i. c.take.ensures.moved
    (some_keys g.Q.Query.order (entries c.self.inside.map) (g.Q.Query.sought c.args.item) i))

pub returns-clause-fewest : goal.returns-clause-fewest
returns-clause-fewest g c =
    subst (λ m. HasFewestMoves m c.take.new.map c.args.count.now c.take.new.count) c.self.view_is c.take.ensures.fewest
