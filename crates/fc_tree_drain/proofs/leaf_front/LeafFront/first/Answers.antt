use Rattle.std.proofs.Common.{rules, ◌-◌, ◌++◌, sym, ap, ◌∙◌, arith}
use Rattle.std.proofs.lemmas.List.{nil_from_length}
use Rattle.fc_tree_node.specs.Node.{items_or_none}
use Rattle.fc_tree_drain.specs.Opened.{after_front}
use Rattle.fc_tree_drain.proofs.Ends.{nodes_there, top_has, top_first}
use Rattle.fc_tree_drain.proofs.leaf_front.LeafFront.first.Goals as goal

pub get-requires : goal.get-requires
get-requires g c =
    let s = c.self.inside in
    let k = nodes_there _ s.nodes _ (ap (λ f. f.pairs) c.self.view_is) c.requires (omega arith) in
    (search rules, omega arith)

pub pair-requires : goal.pair-requires
pair-requires g c =
    let s = c.self.inside in
    let k = nodes_there (items_or_none s.run) s.nodes c.args.self.now.pairs (ap (λ f. f.pairs) c.self.view_is) c.requires (omega arith) in
    top_has s.nodes (c.len.result - 1) c.get.result.now c.self.invariant.0 (omega arith) c.get.ensures

pub returns : goal.returns
returns g c =
    let s = c.self.inside in
    let none = nil_from_length (items_or_none s.run) (omega arith) in
    let k = nodes_there (items_or_none s.run) s.nodes c.args.self.now.pairs (ap (λ f. f.pairs) c.self.view_is) c.requires (omega arith) in
    let t = top_first s.nodes (c.len.result - 1) c.get.result.now c.pair.result.now c.self.invariant.0 (omega arith) c.get.ensures c.pair.ensures in
    (t.0, sym (ap (λ f. f.pairs) c.self.view_is) ∙ ap (λ xs. xs ++ after_front s.nodes) none ∙ t.1)
