use Rattle.std.proofs.Common.{◌∷◌, length, take, ap, ◌∙◌, arith, length-append, length-take}
use Rattle.fc_tree_node.specs.Node.{own_pairs}
use Rattle.fc_tree_node.proofs.Made.{own_made, inner_length, joined_items}
use Rattle.fc_tree_node.proofs.Formed.{alike_opened, alike_made}
use Rattle.fc_tree_node.proofs.node.Node.join.Goals as goal

pub returns-in-Some-Some-clause-alike : goal.returns-in-Some-Some-clause-alike
returns-in-Some-Some-clause-alike g c =
    let xs = own_pairs c.args.self.now in let ys = own_pairs c.args.right in
    let whole = joined_items xs ys _ _ c.args.pair _ _ c.len-middle.ensures.value c.len-all.ensures.value c.insert.ensures.items c.move_front.ensures.other in
    let both = alike_opened _ _ _ c.in-Some-Some.is-0 c.requires.alike in let more = c.in-Some-Some.children in let last = c.in-Some-Some.other_children in
    let l = inner_length _ _ c.in-Some-Some.is-0 both.0 in let r = inner_length _ _ c.in-Some-Some.is-1 both.1 in
    alike_made c.args.self.now _ _ both.0 (omega (
      arith,
      l,
      r,
      ap length whole,
      length-append xs (c.args.pair ∷ ys),
      ap length c.move_front-in-Some-Some.ensures.other,
      c.len-all-in-Some-Some.ensures.value,
      length-append more (take c.len-all-in-Some-Some.result last),
      length-take c.len-all-in-Some-Some.result last,
    ))

pub returns-in-None-None-clause-pairs : goal.returns-in-None-None-clause-pairs
returns-in-None-None-clause-pairs g c = own_made _
    ∙ joined_items (own_pairs c.args.self.now) (own_pairs c.args.right) _ _ c.args.pair _ _
    c.len-middle.ensures.value c.len-all.ensures.value c.insert.ensures.items
    c.move_front.ensures.other
