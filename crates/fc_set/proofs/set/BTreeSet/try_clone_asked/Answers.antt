use Rattle.std.proofs.lemmas.Result.{err_from_is_err_and}
use Rattle.fc_map.specs.Entries.{entries}
use Rattle.fc_set.proofs.ItemFacts.{ascending_keys, copied_keys, refused_keys}
use Rattle.fc_set.proofs.set.BTreeSet.try_clone_asked.Goals as goal

pub returns-clause-copied : goal.returns-clause-copied
returns-clause-copied g c = rw (← c.self.view_is) (copied_keys g.T.TryClone.same _ (entries c.self.inside.map) _ c.in_ok-copy.ensures.copied)

pub returns-clause-ascending : goal.returns-clause-ascending
returns-clause-ascending g c = ascending_keys g.T.Ord.cmp _ c.len-len.ensures.ascending

pub returns-in_err-copy-clause-copied : goal.returns-in_err-copy-clause-copied
returns-in_err-copy-clause-copied g c =
    let p = err_from_is_err_and c.from_residual.result c.from_residual.ensures.1 in
    rw (p.1, p.2) (rw (← c.self.view_is) (refused_keys g.T.TryClone.may_refuse (entries c.self.inside.map) _ c.in_err-copy.ensures.copied))
