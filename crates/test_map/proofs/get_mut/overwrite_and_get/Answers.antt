use Rattle.std.proofs.Common.{rules}
use Rattle.fc_base.proofs.Laws.{value_at_put}
use Rattle.fc_map.specs.Entries.{entries}
use Rattle.test_map.proofs.get_mut.overwrite_and_get.Goals as goal
use Rattle.test_map.proofs.get_mut.overwrite_and_get.Goals.{in-Some, in_default}

pub returns-clause-there : goal.returns-clause-there
returns-clause-there g c =
    let k = c.args.key.now in
    let found = value_at_put g.K.Ord.cmp (entries c.args.map.now) k c.args.value g.met.K.Ord.total in
    elim c.match-get_mut.branch [
      | in-Some w ↦ (let put = w.in-Some.ensures.put k c.args.value in search rules)
      | in_default w ↦ search rules
    ]
