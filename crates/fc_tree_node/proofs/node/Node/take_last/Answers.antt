use Rattle.std.proofs.Common.{◌≡◌, ◌+◌, ◌-◌, [], ◌∷◌, ◌++◌, length, sym, ap, ◌∙◌, arith}
use Rattle.std.proofs.lemmas.List.Edits.{length-remove}
use Rattle.fc_tree_node.specs.Node.{own_pairs}
use Rattle.fc_tree_node.proofs.Cuts.{last_out}
use Rattle.fc_tree_node.proofs.Made.{own_made, children_made, children_in, inner_length}
use Rattle.fc_tree_node.proofs.Formed.{inner_opened, alike_made}
use Rattle.fc_tree_node.proofs.node.Node.take_last.Goals as goal

pub returns-in-Some-clause-pairs : goal.returns-in-Some-clause-pairs
returns-in-Some-clause-pairs g c =
    let k : c.len-last.result - 1 + 1 ≡ length (own_pairs c.args.self.now) = omega arith in
    last_out _ _ _ k c.remove-pair.ensures.value ∙ ap (λ ps. ps ++ c.remove-pair.result ∷ []) (sym c.remove-pair.ensures.items ∙ sym (own_made _))

pub returns-in-Some-clause-children : goal.returns-in-Some-clause-children
returns-in-Some-clause-children g c =
    let n = inner_length c.args.self.now _ c.in-Some.is (inner_opened _ _ c.in-Some.is c.requires.formed) in
    let k : c.len-last-in-Some.result - 1 + 1 ≡ length c.in-Some.children = omega arith in
    children_in _ _ c.in-Some.is ∙ last_out _ _ _ k c.remove-child.ensures.value
    ∙ ap (λ cs. cs ++ c.remove-child.result ∷ []) (sym c.remove-child.ensures.items ∙ sym (children_made _))

pub returns-in-Some-clause-alike : goal.returns-in-Some-clause-alike
returns-in-Some-clause-alike g c =
    let inner = inner_opened _ _ c.in-Some.is c.requires.formed in
    let n = inner_length c.args.self.now _ c.in-Some.is inner in
    let p = ap length c.remove-pair.ensures.items in
    let q = ap length c.remove-child.ensures.items in
    alike_made _ _ _ inner (grind (arith, length-remove))
