use Rattle.std.proofs.Common.{subst, sym, ap, ◌∙◌}
use Rattle.fc_map.specs.Entries.{entries}
use Rattle.fc_map.specs.Fewest.{HasFewestMoves}
use Rattle.fc_set.proofs.ItemFacts.{keys, without_keys, ascending_keys, held_keys, none_keys, some_keys}
use Rattle.fc_set.proofs.set.BTreeSet.remove_counted.Goals as goal

pub returns-clause-there : goal.returns-clause-there
returns-clause-there g c = rw (← c.self.view_is) (held_keys g.Q.Query.order (entries c.self.inside.map) (g.Q.Query.sought c.args.item) _ _ c.is_some.ensures
    c.remove_counted.ensures.value)

pub returns-clause-rest : goal.returns-clause-rest
returns-clause-rest g c = rw (← c.self.view_is) (ap keys c.remove_counted.ensures.rest
    ∙ sym (without_keys g.Q.Query.order (entries c.self.inside.map) (g.Q.Query.sought c.args.item)))

pub returns-clause-absent : goal.returns-clause-absent
returns-clause-absent g c = rw (← c.self.view_is) (λ n. c.remove_counted.ensures.absent
    (none_keys g.Q.Query.order (entries c.self.inside.map) (g.Q.Query.sought c.args.item) n))

pub returns-clause-ascending : goal.returns-clause-ascending
returns-clause-ascending g c = ascending_keys g.T.Ord.cmp _ c.remove_counted.ensures.ascending

pub returns-clause-no_move : goal.returns-clause-no_move
returns-clause-no_move g c = rw (← c.self.view_is) (λ n. c.remove_counted.ensures.no_move
    (none_keys g.Q.Query.order (entries c.self.inside.map) (g.Q.Query.sought c.args.item) n))

pub returns-clause-moved : goal.returns-clause-moved
returns-clause-moved g c = rw (← c.self.view_is) (λ i. c.remove_counted.ensures.moved
    (some_keys g.Q.Query.order (entries c.self.inside.map) (g.Q.Query.sought c.args.item) i))

pub returns-clause-fewest : goal.returns-clause-fewest
returns-clause-fewest g c =
    subst (λ m. HasFewestMoves m c.remove_counted.new.self c.args.count.now c.remove_counted.new.count) c.self.view_is c.remove_counted.ensures.fewest
