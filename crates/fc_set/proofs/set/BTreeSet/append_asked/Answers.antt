use Rattle.std.proofs.Common.{sym, ap, ◌∙◌}
use Rattle.fc_map.specs.Entries.{entries}
use Rattle.fc_set.proofs.ItemFacts.{keys, joined_keys, ascending_keys, both_ascend, ascending_both, keys_length, no_keys_either, map_ok}
use Rattle.fc_set.proofs.set.BTreeSet.append_asked.Goals as goal

pub returns-clause-joined : goal.returns-clause-joined
returns-clause-joined g c = rw (← c.self.view_is) (rw (← c.other.view_is)
    (map_ok c.append_asked.result _ _ (λ e. ap keys e ∙ sym (joined_keys g.T.Ord.cmp (entries c.self.inside.map) (entries c.other.inside.map)))
    c.append_asked.ensures.joined))

pub returns-clause-ascending : goal.returns-clause-ascending
returns-clause-ascending g c = ascending_keys g.T.Ord.cmp _ c.append_asked.ensures.ascending

pub returns-clause-none : goal.returns-clause-none
returns-clause-none g c = rw (← c.self.view_is) (rw (← c.other.view_is)
    (λ h. c.append_asked.ensures.none (no_keys_either (entries c.self.inside.map) (entries c.other.inside.map) h)))

pub returns-clause-counted : goal.returns-clause-counted
returns-clause-counted g c = rw (← c.self.view_is) (rw (← c.other.view_is)
    (rw (keys_length (entries c.self.inside.map), keys_length (entries c.other.inside.map)) c.append_asked.ensures.counted))

pub returns-clause-ascended : goal.returns-clause-ascended
returns-clause-ascended g c =
    let a = c.append_asked.ensures.ascended in
    rw (← c.self.view_is) (rw (← c.other.view_is) (
      ascending_keys g.T.Ord.cmp (entries c.self.inside.map) a.0,
      ascending_keys g.T.Ord.cmp (entries c.other.inside.map) a.1,
    ))

pub returns-clause-no_request : goal.returns-clause-no_request
returns-clause-no_request g c = rw (← c.self.view_is) (rw (← c.other.view_is)
    (λ h. c.append_asked.ensures.no_request (no_keys_either (entries c.self.inside.map) (entries c.other.inside.map) h)))

pub returns-clause-requests_after : goal.returns-clause-requests_after
returns-clause-requests_after g c = rw (← c.self.view_is) (rw (← c.other.view_is)
    (rw (keys_length (entries c.self.inside.map), keys_length (entries c.other.inside.map)) (map_ok c.append_asked.result _ _
    (λ made n m a. made n m (both_ascend g.T.Ord.cmp (entries c.self.inside.map) (entries c.other.inside.map) a)) c.append_asked.ensures.requests_after)))

pub returns-clause-requests_merged : goal.returns-clause-requests_merged
returns-clause-requests_merged g c = rw (← c.self.view_is) (rw (← c.other.view_is)
    (rw (keys_length (entries c.self.inside.map), keys_length (entries c.other.inside.map)) (map_ok c.append_asked.result _ _
    (λ made mixed. made (λ a. mixed (ascending_both g.T.Ord.cmp (entries c.self.inside.map) (entries c.other.inside.map) a)))
    c.append_asked.ensures.requests_merged)))

pub returns-clause-at_most_after : goal.returns-clause-at_most_after
returns-clause-at_most_after g c = rw (← c.self.view_is) (rw (← c.other.view_is)
    (λ a. c.append_asked.ensures.at_most_after (both_ascend g.T.Ord.cmp (entries c.self.inside.map) (entries c.other.inside.map) a)))

pub returns-clause-at_most_merged : goal.returns-clause-at_most_merged
returns-clause-at_most_merged g c = rw (← c.self.view_is) (rw (← c.other.view_is)
    (rw (keys_length (entries c.self.inside.map), keys_length (entries c.other.inside.map))
    (λ mixed. c.append_asked.ensures.at_most_merged (λ a. mixed (ascending_both g.T.Ord.cmp (entries c.self.inside.map) (entries c.other.inside.map) a)))))

pub returns-clause-at_most : goal.returns-clause-at_most
returns-clause-at_most g c = rw (← c.self.view_is) (rw (← c.other.view_is)
    (rw (keys_length (entries c.self.inside.map), keys_length (entries c.other.inside.map)) c.append_asked.ensures.at_most))

pub returns-clause-error : goal.returns-clause-error
returns-clause-error g c = rw (← c.self.view_is) (rw (← c.other.view_is)
    (rw (keys_length (entries c.self.inside.map), keys_length (entries c.other.inside.map)) c.append_asked.ensures.error))

pub returns-clause-full : goal.returns-clause-full
returns-clause-full g c = rw (← c.self.view_is) (rw (← c.other.view_is)
    (rw (keys_length (entries c.self.inside.map), keys_length (entries c.other.inside.map)) c.append_asked.ensures.full))
