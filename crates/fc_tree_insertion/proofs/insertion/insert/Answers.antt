use Rattle.std.proofs.Common.{◌≡◌, ◌+◌, ◌-◌, length, sym, ap, subst, ◌∙◌, arith}
use Rattle.fc_tree_node.specs.Node.{IsSoundRoot}
use Rattle.fc_tree_node.specs.Path.{IsPath, before_gap, after_gap}
use Rattle.fc_tree_insertion.specs.Cascade.{cascade, nodes_needed, IsSpareLeaf}
use Rattle.fc_tree_insertion.specs.NewPair.{path_after, IsPutAt}
use Rattle.fc_tree_insertion.proofs.NewPairs.{small_steps, steps_fit}
use Rattle.fc_tree_insertion.proofs.Cascades.{new_nodes_given}
use Rattle.fc_tree_insertion.proofs.insertion.insert.Goals as goal

pub insert_with-requires-clause-some : goal.insert_with-requires-clause-some
insert_with-requires-clause-some g c = rw c.as_slice.ensures.value c.requires.some

pub insert_with-requires-clause-path : goal.insert_with-requires-clause-path
insert_with-requires-clause-path g c = subst (λ p. IsPath p c.args.root.now) (sym c.as_slice.ensures.value) c.requires.path

pub insert_with-requires-clause-sound : goal.insert_with-requires-clause-sound
insert_with-requires-clause-sound g c = subst (λ p. IsSoundRoot (length p - 1) c.args.root.now) (sym c.as_slice.ensures.value) c.requires.sound

pub insert_with-requires-clause-leaf : goal.insert_with-requires-clause-leaf
insert_with-requires-clause-leaf g c =
    let r = new_nodes_given c.new_nodes.inside.leaf c.new_nodes.inside.inner c.args.path.now c.args.root.now (c.new_nodes.view_is ∙ c.requires.new_nodes)
    c.new_nodes.invariant c.requires.some in
    subst (λ p. IsSpareLeaf c.new_nodes.inside.leaf (cascade p c.args.root.now)) (sym c.as_slice.ensures.value) r.0

pub insert_with-requires-clause-inner : goal.insert_with-requires-clause-inner
insert_with-requires-clause-inner g c =
    let r = new_nodes_given c.new_nodes.inside.leaf c.new_nodes.inside.inner c.args.path.now c.args.root.now (c.new_nodes.view_is ∙ c.requires.new_nodes)
    c.new_nodes.invariant c.requires.some in
    subst (λ p. c.new_nodes.inside.inner ≡ nodes_needed p c.args.root.now - 1) (sym c.as_slice.ensures.value) r.1

pub lead_to_new_pair-requires : goal.lead_to_new_pair-requires
lead_to_new_pair-requires g c =
    let h : length c.args.path.now ≡ (length c.args.path.now - 1) + 1 = omega arith in
    record {
      steps = small_steps c.args.path.now _ c.args.root.now h c.requires.path c.requires.sound.1;
      short = steps_fit c.args.path.now c.args.root.now _ (c.len-nodes.ensures ∙ c.requires.new_nodes) c.requires.short;
    }

pub returns-clause-place : goal.returns-clause-place
returns-clause-place g c =
    let root = c.insert_with.new.root in
    let old = c.args.root.now in
    let nodes = c.len-nodes.ensures ∙ c.requires.new_nodes in
    let put = subst (λ p. IsPutAt (path_after (nodes_needed p old) p) root c.args.pair (before_gap p old) (after_gap p old)) c.as_slice.ensures.value
    c.insert_with.ensures.place in
    subst (λ p. IsPutAt p root c.args.pair (before_gap c.args.path.now old) (after_gap c.args.path.now old))
    (sym (c.lead_to_new_pair.ensures ∙ ap (λ n. path_after n c.args.path.now) nodes)) put
