use Rattle.std.proofs.Common.{◌≡◌, ◌+◌, ◌-◌, [], arith, refl, subst}
use Rattle.fc_tree_node.specs.Node.{own_pairs}
use Rattle.fc_tree_retain.specs.Filtered.{FiltersPair}
use Rattle.fc_tree_retain.proofs.Passing.{IsLeafFiltered, leaf_start, leaf_passed, leaf_end, leaf_room}
use Rattle.fc_tree_retain.proofs.filtering.filter_leaf.Goals as goal

pub loop-init : goal.loop-init
loop-init g c =
    record {
      callable = c.requires.callable;
      unbalanced = c.requires.leaf;
      at =
          leaf_start (FiltersPair g.S.Filter.asked g.S.Filter.given) c.args.filter.now (own_pairs c.args.node.now) [] (own_pairs c.args.node.now) 0 0
          (c.len-end.result - 0) refl refl (omega arith);
    }

pub filter_pair-at-requires-clause-inside : goal.filter_pair-at-requires-clause-inside
filter_pair-at-requires-clause-inside g c =
    leaf_room (FiltersPair g.S.Filter.asked g.S.Filter.given) [] 0 c.args.filter.now c.loop.filter _ _ c.loop.at (c.len-end.result - c.loop.counter)
    c.loop.invariant.at (omega arith)

pub loop-preserved : goal.loop-preserved
loop-preserved g c =
    record {
      callable = c.filter_pair-at.ensures.callable;
      unbalanced = c.filter_pair-at.ensures.unbalanced;
      at = leaf_passed (FiltersPair g.S.Filter.asked g.S.Filter.given) [] 0 c.args.filter.now c.loop.filter c.filter_pair-at.new.filter _ _ _ c.loop.at
          (c.len-end.result - c.loop.counter) (c.len-end.result - (c.loop.counter + 1)) c.filter_pair-at.result c.loop.invariant.at (omega arith)
          c.filter_pair-at.ensures.passed;
    }

pub returns-clause-filtered : goal.returns-clause-filtered
returns-clause-filtered g c =
    let R = FiltersPair g.S.Filter.asked g.S.Filter.given in
    let z : c.len-end.result - c.loop.counter ≡ 0 = omega arith in
    leaf_end R c.args.filter.now c.loop.filter (own_pairs c.args.node.now) (own_pairs c.loop.node) c.loop.at
    (subst (λ j. IsLeafFiltered R [] 0 c.args.filter.now c.loop.filter (own_pairs c.args.node.now) (own_pairs c.loop.node) c.loop.at j) z c.loop.invariant.at)
