use Rattle.std.proofs.Common.{sym, subst, arith}
use Rattle.fc_base.specs.Ascending.{IsAscending}
use Rattle.fc_base.proofs.JoinedLaws.{ascending_joined}
use Rattle.fc_map.specs.Entries.{entries}
use Rattle.fc_map.proofs.map.BTreeMap.append_asked.Goals as goal

pub invariant_of-self-2 : goal.invariant_of-self-2
invariant_of-self-2 g c =
    let ours = entries c.self.inside.root in
    let theirs = entries c.other.inside.root in
    let a = subst (IsAscending g.K.Ord.cmp) (sym c.in_ok-self-inside.ensures.joined)
    (ascending_joined g.K.Ord.cmp ours theirs g.met.K.Ord.total c.self.invariant.0) in
    (a, c.try_append.ensures.sound.0, c.in_ok-self-inside.ensures.len)

pub returns-clause-ascending : goal.returns-clause-ascending
returns-clause-ascending g c =
    let ours = entries c.self.inside.root in
    let theirs = entries c.other.inside.root in
    subst (IsAscending g.K.Ord.cmp) (sym c.in_ok-self-inside.ensures.joined) (ascending_joined g.K.Ord.cmp ours theirs g.met.K.Ord.total c.self.invariant.0)

pub returns-clause-requests_merged : goal.returns-clause-requests_merged
returns-clause-requests_merged g c = rw (← c.self.view_is) (rw (← c.other.view_is)
    (rw (c.self.invariant.2, c.other.invariant.2) at c.in_ok-self-inside.ensures.requests_merged))

pub returns-clause-at_most_merged : goal.returns-clause-at_most_merged
returns-clause-at_most_merged g c = rw (← c.self.view_is) (rw (← c.other.view_is)
    (rw (c.self.invariant.2, c.other.invariant.2) at c.try_append.ensures.at_most_merged))

pub returns-clause-blocks : goal.returns-clause-blocks
returns-clause-blocks g c = rw (← c.self.view_is) (rw (← c.other.view_is) (omega (arith, c.in_ok-self-inside.ensures.blocks)))
