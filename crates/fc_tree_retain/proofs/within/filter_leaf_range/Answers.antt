use Rattle.std.proofs.Common.{◌≡◌, ◌+◌, ◌-◌, length, take, drop, arith, sym, subst}
use Rattle.std.proofs.lemmas.List.{length-drop}
use Rattle.fc_tree_node.specs.Node.{own_pairs}
use Rattle.fc_tree_node.proofs.Lists.{take_drop, length_take}
use Rattle.fc_tree_retain.specs.Filtered.{FiltersPair}
use Rattle.fc_tree_retain.proofs.Passing.{IsLeafFiltered, leaf_start, leaf_passed, leaf_room, part_end}
use Rattle.fc_tree_retain.proofs.within.filter_leaf_range.Goals as goal

pub loop-init : goal.loop-init
loop-init g c =
    let xs = own_pairs c.args.node.now in
    let d = length-drop c.args.start xs in
    record {
      callable = c.requires.callable;
      unbalanced = c.requires.leaf;
      at = leaf_start (FiltersPair g.S.Filter.asked g.S.Filter.given) c.args.filter.now xs (take c.args.start xs) (drop c.args.start xs) c.args.start
          (length xs - c.args.end) (c.args.end - c.args.start) (sym (take_drop c.args.start xs)) (length_take c.args.start xs (omega arith)) (omega arith);
    }

pub filter_pair-at-requires-clause-inside : goal.filter_pair-at-requires-clause-inside
filter_pair-at-requires-clause-inside g c =
    leaf_room (FiltersPair g.S.Filter.asked g.S.Filter.given) (take c.args.start (own_pairs c.args.node.now)) _ c.args.filter.now c.loop.filter _ _ c.loop.at
    (c.args.end - c.loop.counter) c.loop.invariant.at (omega arith)

pub loop-preserved : goal.loop-preserved
loop-preserved g c =
    record {
      callable = c.filter_pair-at.ensures.callable;
      unbalanced = c.filter_pair-at.ensures.unbalanced;
      at = leaf_passed (FiltersPair g.S.Filter.asked g.S.Filter.given) _ _ c.args.filter.now c.loop.filter c.filter_pair-at.new.filter _ _ _ c.loop.at
          (c.args.end - c.loop.counter) (c.args.end - (c.loop.counter + 1)) c.filter_pair-at.result c.loop.invariant.at (omega arith)
          c.filter_pair-at.ensures.passed;
    }

pub returns-clause-filtered : goal.returns-clause-filtered
returns-clause-filtered g c =
    let R = FiltersPair g.S.Filter.asked g.S.Filter.given in
    let xs = own_pairs c.args.node.now in
    let z : c.args.end - c.loop.counter ≡ 0 = omega arith in
    part_end R c.args.start c.args.end (length xs - c.args.end) c.args.filter.now c.loop.filter xs (own_pairs c.loop.node) c.loop.at (omega arith) (omega arith)
    (subst (λ j. IsLeafFiltered R (take c.args.start xs) (length xs - c.args.end) c.args.filter.now c.loop.filter xs (own_pairs c.loop.node) c.loop.at j) z
    c.loop.invariant.at)
