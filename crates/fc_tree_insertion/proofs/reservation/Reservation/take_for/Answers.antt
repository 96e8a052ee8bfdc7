use Rattle.std.proofs.Common.{◌≤◌, ap, arith}
use Rattle.fc_tree_insertion.specs.Cascade.{nodes_needed}
use Rattle.fc_tree_insertion.specs.Reservation.{Places}
use Rattle.fc_tree_insertion.proofs.Reservations.{needed_most, place_enough, place_used}
use Rattle.fc_tree_insertion.proofs.reservation.Reservation.take_for.Goals as goal

pub take_new_nodes-requires-clause-enough : goal.take_new_nodes-requires-clause-enough
take_new_nodes-requires-clause-enough g c =
    let root = c.args.root.now in
    let path = c.args.path.now in
    let steps = c.requires.levels c.requires.sound.0 c.requires.sound.2.1 in
    let reservation = c.self.inside in
    let places = ap (λ (r : Places). r.places) c.self.view_is in
    let pairs = ap (λ (r : Places). r.pairs) c.self.view_is in
    let few = needed_most root path c.requires.sound steps reservation.levels reservation.pairs (omega arith) c.self.invariant.2 in
    let enough = place_enough reservation.places reservation.levels reservation.pool (omega arith) c.self.invariant.0 in
    rw c.as_slice.ensures.value (omega arith)

pub invariant_of-self : goal.invariant_of-self
invariant_of-self g c =
    let root = c.args.root.now in
    let path = c.args.path.now in
    let steps = c.requires.levels c.requires.sound.0 c.requires.sound.2.1 in
    let reservation = c.self.inside in
    let places = ap (λ (r : Places). r.places) c.self.view_is in
    let pairs = ap (λ (r : Places). r.pairs) c.self.view_is in
    let few : nodes_needed path root ≤ reservation.levels = needed_most root path c.requires.sound steps reservation.levels reservation.pairs (omega arith)
    c.self.invariant.2 in
    let len = rw c.as_slice.ensures.value at c.take_new_nodes.ensures.len in
    (place_used reservation.places reservation.levels reservation.pool _ _ (omega arith) c.self.invariant.0 few len, c.self.invariant.1, c.self.invariant.2)
