use Rattle.std.proofs.Common.{◌≡◌, ◌+◌, ◌++◌, length, take, drop, sym, ap, ◌∙◌, arith, length-append}
use Rattle.std.proofs.lemmas.List.{length-take, length-drop}
use Rattle.fc_tree_node.specs.Node.{children_of}
use Rattle.fc_tree_node.proofs.Made.{children_made, children_in, inner_length, own_made, field_made}
use Rattle.fc_tree_node.proofs.Formed.{alike_opened, alike_traded, alike_both, alike_back}
use Rattle.fc_tree_node.proofs.Places.{front_pairs, back_pairs, leaf_front, leaf_back}
use Rattle.fc_tree_node.proofs.node.Node.move_suffix.Goals as goal

pub returns-in-Some-Some-clause-children : goal.returns-in-Some-Some-clause-children
returns-in-Some-Some-clause-children g c =
    let p = ap length c.move_tail.ensures.items in
    let k : c.len-kept.result + 1 ≡ c.args.at + 1 = grind (arith, length-take) in
    children_made _ ∙ c.move_tail-in-Some-Some.ensures.items ∙ ap (λ j. take j c.in-Some-Some.children) k
    ∙ ap (take (c.args.at + 1)) (sym (children_in _ _ c.in-Some-Some.is-0))

pub returns-in-Some-Some-clause-other_children : goal.returns-in-Some-Some-clause-other_children
returns-in-Some-Some-clause-other_children g c =
    let p = ap length c.move_tail.ensures.items in
    let k : c.len-kept.result + 1 ≡ c.args.at + 1 = grind (arith, length-take) in
    children_made _ ∙ c.move_tail-in-Some-Some.ensures.other ∙ ap (λ cs. cs ++ drop (c.len-kept.result + 1) c.in-Some-Some.children)
    (sym (children_in _ _ c.in-Some-Some.is-1))
    ∙ ap (λ cs. children_of c.args.other.now ++ cs) (ap (λ j. drop j c.in-Some-Some.children) k
    ∙ ap (drop (c.args.at + 1)) (sym (children_in _ _ c.in-Some-Some.is-0)))

pub returns-in-Some-Some-clause-alike : goal.returns-in-Some-Some-clause-alike
returns-in-Some-Some-clause-alike g c =
    let p = ap length c.move_tail.ensures.items in
    let q = ap length c.move_tail.ensures.other in
    let s = ap length c.move_tail-in-Some-Some.ensures.items in
    let t = ap length c.move_tail-in-Some-Some.ensures.other in
    let i = alike_opened c.args.self.now c.args.other.now _ c.in-Some-Some.is-0 c.requires.alike in
    let n = inner_length c.args.self.now _ c.in-Some-Some.is-0 i.0 in
    let m = inner_length c.args.other.now _ c.in-Some-Some.is-1 i.1 in
    alike_traded c.args.self.now c.args.other.now _ _ c.in-Some-Some.is-0 c.in-Some-Some.is-1 c.requires.alike _ _ _ _
    (grind (arith, length-take, length-drop, length-append)) (grind (arith, length-take, length-drop, length-append))

pub returns-in-Some-Some-clause-all_pairs : goal.returns-in-Some-Some-clause-all_pairs
returns-in-Some-Some-clause-all_pairs g c =
    front_pairs c.args.self.now c.args.at _ c.requires.in_bounds (returns-in-Some-Some-clause-alike g c).0 (own_made _ ∙ c.move_tail.ensures.items)
    (returns-in-Some-Some-clause-children g c)

pub returns-in-Some-Some-clause-other_all_pairs : goal.returns-in-Some-Some-clause-other_all_pairs
returns-in-Some-Some-clause-other_all_pairs g c =
    let a = returns-in-Some-Some-clause-alike g c in
    back_pairs c.args.self.now c.args.at c.args.other.now _ c.requires.alike (alike_both _ _ _ c.requires.alike (alike_both _ _ _ (alike_back _ _ a.0) a.1))
    (own_made _ ∙ c.move_tail.ensures.other) (returns-in-Some-Some-clause-other_children g c)

pub returns-in-None-None-clause-all_pairs : goal.returns-in-None-None-clause-all_pairs
returns-in-None-None-clause-all_pairs g c = leaf_front c.args.self.now c.args.at _ c.in-None-None.is-0 (field_made _ ∙ c.in-None-None.is-0)
    (own_made _ ∙ c.move_tail.ensures.items)

pub returns-in-None-None-clause-other_all_pairs : goal.returns-in-None-None-clause-other_all_pairs
returns-in-None-None-clause-other_all_pairs g c = leaf_back c.args.self.now c.args.at c.args.other.now _ c.in-None-None.is-0 c.in-None-None.is-1
    (field_made _ ∙ c.in-None-None.is-1) (own_made _ ∙ c.move_tail.ensures.other)
