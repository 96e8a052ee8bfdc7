use Rattle.std.proofs.Common.{◌-◌, ◌++◌, length, take, sym, ap, ◌∙◌, append_assoc, arith, length-append}
use Rattle.std.proofs.lemmas.List.{length-take, length-drop}
use Rattle.fc_tree_node.proofs.Lists.{take_drop}
use Rattle.fc_tree_node.proofs.Made.{children_kept, inner_length}
use Rattle.fc_tree_node.proofs.Formed.{alike_traded, alike_opened}
use Rattle.fc_tree_node.proofs.node.Node.send_right.Goals as goal

pub returns-in-Some-Some-clause-children : goal.returns-in-Some-Some-clause-children
returns-in-Some-Some-clause-children g c =
    children_kept c.args.self.now c.args.right.now _ _ _ _ c.in-Some-Some.is-0 c.in-Some-Some.is-1
    (ap (λ xs. xs ++ c.move_back.new.other) c.move_back.ensures.items ∙ ap
    (λ xs. take (length c.in-Some-Some.children - c.args.n) c.in-Some-Some.children ++ xs) c.move_back.ensures.other
    ∙ sym (append_assoc (take (length c.in-Some-Some.children - c.args.n) c.in-Some-Some.children) _ _)
    ∙ ap (λ xs. xs ++ c.in-Some-Some.other_children) (take_drop (length c.in-Some-Some.children - c.args.n) c.in-Some-Some.children))

pub returns-in-Some-Some-clause-alike : goal.returns-in-Some-Some-clause-alike
returns-in-Some-Some-clause-alike g c =
    let p = ap length c.move_back.ensures.items in
    let q = ap length c.move_back.ensures.other in
    let i = alike_opened c.args.self.now c.args.right.now _ c.in-Some-Some.is-0 c.requires.alike in
    let k = inner_length c.args.self.now _ c.in-Some-Some.is-0 i.0 in
    let m = inner_length c.args.right.now _ c.in-Some-Some.is-1 i.1 in
    alike_traded c.args.self.now c.args.right.now _ _ c.in-Some-Some.is-0 c.in-Some-Some.is-1 c.requires.alike _ _ _ _
    (grind (arith, length-take, length-drop, length-append)) (grind (arith, length-take, length-drop, length-append))
