use Rattle.fc_hash.proofs.PairFacts.{put_in}
use Rattle.fc_hash.proofs.hashmap.TryHashMap.insert.Goals as goal

pub returns-clause-put : goal.returns-clause-put
returns-clause-put g c =
    let done = c.in_ok-old.ensures in
    rw (← c.self.view_is) (put_in g.K.PartialEq.eq c.args.key c.args.value c.in_ok-old.old c.self.inside.inner.entries c.insert.new.self.entries done.old
    done.entries)
