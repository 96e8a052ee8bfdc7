use Rattle.std.proofs.Common.{rules, arith}
use Rattle.std.proofs.lemmas.List.{nil_from_length}
use Rattle.fc_tree_node.specs.Node.{items_or_none}
use Rattle.fc_tree_drain.proofs.Ends.{nodes_there}
use Rattle.fc_tree_drain.proofs.drain.Front.next.Goals as goal

pub pop_first_pair-requires : goal.pop_first_pair-requires
pop_first_pair-requires g c =
    let s = c.self.inside in
    let some = nodes_there (items_or_none s.run) s.nodes c.args.self.now c.self.view_is c.requires (omega arith) in
    (search rules, (some, (c.self.invariant, nil_from_length (items_or_none s.run) (omega arith))))
