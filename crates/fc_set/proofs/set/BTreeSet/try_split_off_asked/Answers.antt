use Rattle.std.proofs.Common.{◌<◌, length, sym, ap, ◌∙◌}
use Rattle.std.proofs.lemmas.Result.{err_from_is_err_and}
use Rattle.fc_map.specs.Entries.{entries}
use Rattle.fc_set.specs.Items.{items}
use Rattle.fc_set.proofs.ItemFacts.{keys, smaller_keys, not_smaller_keys, ascending_keys, keys_length}
use Rattle.fc_set.proofs.set.BTreeSet.try_split_off_asked.Goals as goal

pub returns-clause-smaller : goal.returns-clause-smaller
returns-clause-smaller g c = rw (← c.self.view_is) (ap keys c.in_ok-map.ensures.below
    ∙ sym (smaller_keys g.Q.Query.order (entries c.self.inside.map) (g.Q.Query.sought c.args.item)))

pub returns-clause-from : goal.returns-clause-from
returns-clause-from g c = rw (← c.self.view_is) (ap keys c.in_ok-map.ensures.from
    ∙ sym (not_smaller_keys g.Q.Query.order (entries c.self.inside.map) (g.Q.Query.sought c.args.item)))

pub returns-clause-ascending : goal.returns-clause-ascending
returns-clause-ascending g c = (ascending_keys g.T.Ord.cmp _ c.in_ok-map.ensures.ascending.0, ascending_keys g.T.Ord.cmp _ c.in_ok-map.ensures.ascending.1)

pub returns-in_err-map-clause-ascending : goal.returns-in_err-map-clause-ascending
returns-in_err-map-clause-ascending g c = let p = err_from_is_err_and c.from_residual.result c.from_residual.ensures.1 in
    (ascending_keys g.T.Ord.cmp _ c.in_err-map.ensures.ascending.0, rw p.1 tt)

pub returns-clause-ascended : goal.returns-clause-ascended
returns-clause-ascended g c = rw (← c.self.view_is) (ascending_keys g.T.Ord.cmp (entries c.self.inside.map) c.in_ok-map.ensures.ascended)

pub returns-in_err-map-clause-ascended : goal.returns-in_err-map-clause-ascended
returns-in_err-map-clause-ascended g c = rw (← c.self.view_is) (ascending_keys g.T.Ord.cmp (entries c.self.inside.map) c.in_err-map.ensures.ascended)

pub returns-clause-few : goal.returns-clause-few
returns-clause-few g c = rw (← c.self.view_is) (rw (keys_length (entries c.self.inside.map)) c.split_off_asked.ensures.few)

pub returns-in_err-map-clause-few : goal.returns-in_err-map-clause-few
returns-in_err-map-clause-few g c = rw (← c.self.view_is) (rw (keys_length (entries c.self.inside.map)) c.split_off_asked.ensures.few)

pub returns-in_err-map-clause-error : goal.returns-in_err-map-clause-error
returns-in_err-map-clause-error g c =
    let p = err_from_is_err_and c.from_residual.result c.from_residual.ensures.1 in
    let some : 0 < length (items c.args.self.now) = rw (← c.self.view_is) (rw (keys_length (entries c.self.inside.map)) c.in_err-map.ensures.error.1) in
    rw (p.1, p.2) (c.in_err-map.ensures.error.0, some)
