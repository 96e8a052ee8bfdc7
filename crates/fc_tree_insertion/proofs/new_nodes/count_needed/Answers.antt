use Rattle.std.proofs.Common.{sym, arith}
use Rattle.fc_tree_insertion.proofs.Cascades.{cascade_leaf, cascade_most, needed_whole, needed_part, room_needs_none}
use Rattle.fc_tree_insertion.proofs.new_nodes.count_needed.Goals as goal

pub returns-then-has_room : goal.returns-then-has_room
returns-then-has_room g c =
    let none = room_needs_none c.args.path.now c.args.root.now c.requires.some (c.has_room.ensures.0 c.if-has_room.true) in
    record { value = sym none; few = omega arith; full = λ some. absurd (omega arith) }

pub returns-then-split-path : goal.returns-then-split-path
returns-then-split-path g c =
    let e = needed_whole c.args.path.now c.args.root.now (omega arith) in
    record { value = omega arith; few = omega arith; full = λ some. cascade_leaf c.args.path.now c.args.root.now (omega arith) (omega arith) }

pub returns-else-split-path : goal.returns-else-split-path
returns-else-split-path g c =
    let most = cascade_most c.args.path.now c.args.root.now in
    let e = needed_part c.args.path.now c.args.root.now (omega arith) in
    record { value = omega arith; few = omega arith; full = λ some. cascade_leaf c.args.path.now c.args.root.now (omega arith) (omega arith) }
