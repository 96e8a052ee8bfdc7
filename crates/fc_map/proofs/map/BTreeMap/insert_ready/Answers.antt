use Rattle.std.proofs.Common.{◌≡◌, ◌∙◌, Some, length, sym, ap, arith}
use Rattle.fc_base.specs.Ascending.{IsAscending}
use Rattle.fc_tree_node.specs.Node.{pairs_of}
use Rattle.fc_map.specs.Entries.{entries}
use Rattle.fc_base.proofs.Laws.{ascending_put}
use Rattle.fc_map.proofs.InsertFacts.{put_in, leaf_has_room}
use Rattle.fc_map.specs.Ready.{IsReadyAt}
use Rattle.fc_map.proofs.map.BTreeMap.insert_ready.Given as given
use Rattle.fc_map.proofs.map.BTreeMap.insert_ready.Goals as goal
use Rattle.fc_map.proofs.map.BTreeMap.insert_ready.Goals.{In-Some}

-- the path leads to the key's gap in the tree, and what an insertion there takes is made
ready : (g : given.Over) (c : In-Some g) → IsReadyAt g.K.Ord.cmp c.args.pair.0 (Some c.in-Some.root) c.args.path.now c.args.new_nodes
ready g c = rw c.in-Some.is at (rw (← c.self.view_is) at c.requires)

pub insert_in_room-requires-clause-room : goal.insert_in_room-requires-clause-room
insert_in_room-requires-clause-room g c =
    let ready = ready g (goal.at.insert_in_room-requires-clause-room g c).In-Some in
    let sound = rw c.in-Some.is at c.self.invariant.1 in
    leaf_has_room c.in-Some.root c.args.path.now sound g.K.Ord.cmp c.args.pair.0 ready.0 (sym c.if-len-eq0.true ∙ c.len.ensures ∙ ready.1.0)

pub insert_ready-requires-clause-path : goal.insert_ready-requires-clause-path
insert_ready-requires-clause-path g c = (ready g (goal.at.insert_ready-requires-clause-path g c).In-Some).0.way

pub insert_ready-requires-clause-levels : goal.insert_ready-requires-clause-levels
insert_ready-requires-clause-levels g c = (ready g (goal.at.insert_ready-requires-clause-levels g c).In-Some).0.levels

pub invariant_of-self-2 : goal.invariant_of-self-2
invariant_of-self-2 g c =
    let root = c.in-Some.root in
    let ok = c.insert_ready.ensures in
    let ready = ready g (goal.at.invariant_of-self-2 g c).In-Some in
    let sound = rw c.in-Some.is at c.self.invariant.1 in
    let put = put_in root c.args.path.now sound g.K.Ord.cmp c.args.pair.0 c.args.pair.1 _ ready.0 ok.pairs in
    let ascending : IsAscending g.K.Ord.cmp (pairs_of root) = rw c.in-Some.is at c.self.invariant.0 in
    let len : c.self.inside.len ≡ length (pairs_of root) = c.self.invariant.2 ∙ ap (λ r. length (entries r)) c.in-Some.is in
    (rw put (ascending_put g.K.Ord.cmp _ c.args.pair.0 c.args.pair.1 g.met.K.Ord.total ascending), ok.sound, omega (arith, ok.length, len))

pub returns-clause-put : goal.returns-clause-put
returns-clause-put g c =
    let root = c.in-Some.root in
    let ready = ready g (goal.at.returns-clause-put g c).In-Some in
    let sound = rw c.in-Some.is at c.self.invariant.1 in
    let put = put_in root c.args.path.now sound g.K.Ord.cmp c.args.pair.0 c.args.pair.1 _ ready.0 c.insert_ready.ensures.pairs in
    rw (← c.self.view_is) (rw c.in-Some.is put)

pub returns-clause-ascending : goal.returns-clause-ascending
returns-clause-ascending g c = (invariant_of-self-2 g c).0
