use Rattle.fc_hash.proofs.PairFacts.{taken_out}
use Rattle.fc_hash.proofs.hashmap.TryHashMap.remove.Goals as goal

pub returns-clause-taken : goal.returns-clause-taken
returns-clause-taken g c =
    let done = c.remove.ensures in
    rw (← c.self.view_is) (taken_out g.K.PartialEq.eq c.args.key.now c.remove.result c.self.inside.inner.entries c.remove.new.self.entries done.value
    done.entries done.unchanged)
