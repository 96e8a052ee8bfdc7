use Rattle.std.proofs.Common.{rules, arith, ◌++◌, sym, ap, ◌∙◌, append-nil}
use Rattle.std.proofs.lemmas.List.{nil_from_length}
use Rattle.fc_tree_node.specs.Node.{items_or_none}
use Rattle.fc_tree_drain.specs.Opened.{before_back}
use Rattle.fc_tree_drain.proofs.Ends.{nodes_there_back}
use Rattle.fc_tree_drain.proofs.drain.Back.next_back.Goals as goal

pub pop_last_pair-requires : goal.pop_last_pair-requires
pop_last_pair-requires g c =
    let s = c.self.inside in
    let some = nodes_there_back s.nodes (items_or_none s.run) c.args.self.now c.self.view_is c.requires (omega arith) in
    (search rules, (some, (c.self.invariant, nil_from_length (items_or_none s.run) (omega arith))))

pub returns : goal.returns
returns g c =
    let s = c.self.inside in
    sym c.self.view_is ∙ ap (λ xs. before_back s.nodes ++ xs) (nil_from_length (items_or_none s.run) (omega arith)) ∙ append-nil (before_back s.nodes)
    ∙ c.pop_last_pair.ensures.pairs
