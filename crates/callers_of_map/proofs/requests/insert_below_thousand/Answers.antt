use Rattle.std.specs.Ordering.{nat_cmp}
use Rattle.std.proofs.Common.{◌+◌, length, arith}
use Rattle.fc_map.specs.Entries.{entries}
use Rattle.fc_laws.proofs.Laws.{length_put_at_most, requests_within}
use Rattle.callers_of_map.proofs.requests.insert_below_thousand.Goals as goal

pub returns-clause-requests : goal.returns-clause-requests
returns-clause-requests c = requests_within 3 (length (entries c.args.map.now) + 1) _ _ c.try_insert_asked-done.ensures.few (omega (arith, c.requires.few))

pub returns-in_err-done-clause-requests : goal.returns-in_err-done-clause-requests
returns-in_err-done-clause-requests c =
    requests_within 3 (length (entries c.args.map.now) + 1) _ _ c.try_insert_asked-done.ensures.few (omega (arith, c.requires.few))

pub returns-clause-bytes : goal.returns-clause-bytes
returns-clause-bytes c =
    let longer = length_put_at_most nat_cmp (entries c.args.map.now) c.args.key c.args.value in
    c.held_within.ensures.bytes 240 640 1000 (rw c.in_ok-done.ensures.put (omega (arith, longer, c.requires.few)))
