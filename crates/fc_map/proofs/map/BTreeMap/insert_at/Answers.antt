use Rattle.std.proofs.Common.{arith}
use Rattle.fc_map.proofs.RequestFacts.{room_asks_none}
use Rattle.fc_map.proofs.map.BTreeMap.insert_at.Goals as goal

pub returns-then-self-lt18446744073709551615-clause-requests : goal.returns-then-self-lt18446744073709551615-clause-requests
returns-then-self-lt18446744073709551615-clause-requests g c =
    let none = room_asks_none g.K.Ord.cmp c.args.key c.args.self.now c.args.path.now (rw (← c.self.view_is) c.self.invariant.1) c.requires.gap
    (rw c.if-has_room.true at c.requires.room)
    in
    omega (arith, none)

pub returns-then-self-lt18446744073709551615-clause-blocks : goal.returns-then-self-lt18446744073709551615-clause-blocks
returns-then-self-lt18446744073709551615-clause-blocks g c =
    let none = room_asks_none g.K.Ord.cmp c.args.key c.args.self.now c.args.path.now (rw (← c.self.view_is) c.self.invariant.1) c.requires.gap
    (rw c.if-has_room.true at c.requires.room)
    in
    omega (arith, none, c.insert_in_room.ensures.blocks)
