use Rattle.std.proofs.Common.{length, sym, ap, ◌∙◌}
use Rattle.fc_map.specs.Entries.{entries}
use Rattle.fc_map.specs.Reservation.{reservation_error}
use Rattle.fc_set.specs.Items.{items}
use Rattle.fc_set.proofs.ItemFacts.{keys_length}
use Rattle.fc_set.proofs.set.BTreeSet.try_reserve_nodes_asked.Goals as goal

pub returns-clause-overflow : goal.returns-clause-overflow
returns-clause-overflow g c = λ e.
    let many = sym (keys_length (entries c.self.inside.map)) ∙ ap (λ m. length (items m)) c.self.view_is in
    c.try_reserve_nodes_asked.ensures.overflow (ap (λ n. reservation_error n c.args.insertions) many ∙ e)

pub returns-clause-requests : goal.returns-clause-requests
returns-clause-requests g c = rw (← c.self.view_is) (rw (keys_length (entries c.self.inside.map)) c.try_reserve_nodes_asked.ensures.requests)

pub returns-clause-at_most : goal.returns-clause-at_most
returns-clause-at_most g c = rw (← c.self.view_is) (rw (keys_length (entries c.self.inside.map)) c.try_reserve_nodes_asked.ensures.at_most)

pub returns-clause-pairs : goal.returns-clause-pairs
returns-clause-pairs g c = rw (← c.self.view_is) (rw (keys_length (entries c.self.inside.map)) c.try_reserve_nodes_asked.ensures.pairs)
