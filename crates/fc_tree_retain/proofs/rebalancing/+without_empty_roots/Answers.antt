use Rattle.std.proofs.Common.{◌<◌, rules, arith, sym, ◌∙◌}
use Rattle.fc_tree_node.specs.Measures.{height_of}
use Rattle.fc_tree_node.proofs.Heir.{only_pairs}
use Rattle.fc_tree_split.proofs.Rebalanced.{within_more}
use Rattle.fc_tree_removal.proofs.Removed.{empty_leaf}
use Rattle.fc_tree_retain.proofs.Levels.{underfull_formed, underfull_height, underfull_levelled, underfull_heir}
use Rattle.fc_tree_retain.proofs.rebalancing.+without_empty_roots.Goals as goal

pub returns-then-len-gt0-clause-levels : goal.returns-then-len-gt0-clause-levels
returns-then-len-gt0-clause-levels g t c h b =
    (h, omega arith, (omega arith, underfull_levelled h c.args.root (omega arith) b))

pub into_only_child-requires-clause-formed : goal.into_only_child-requires-clause-formed
into_only_child-requires-clause-formed g t c = underfull_formed _ c.args.root c.requires.1

pub without_empty_roots-requires : goal.without_empty_roots-requires
without_empty_roots-requires g t c κs within =
    let r = underfull_heir c.requires.0 c.args.root c.in-Some.child c.in-Some.ensures (omega arith) c.requires.1 in
    let x = underfull_height c.requires.0 c.args.root c.requires.1 in
    let y = underfull_height r.below c.in-Some.child r.underfull in
    let falls : height_of c.in-Some.child < height_of c.args.root = omega arith in
    (search rules, (search rules, (search rules, (search rules, (r.below, r.underfull)))))

pub returns-in-None-clause-pairs : goal.returns-in-None-clause-pairs
returns-in-None-clause-pairs g t c =
    sym (empty_leaf c.args.root c.in-None.ensures (omega arith))

pub returns-in-Some-clause-pairs : goal.returns-in-Some-clause-pairs
returns-in-Some-clause-pairs g t c =
    c.without_empty_roots.ensures.pairs ∙ only_pairs c.args.root _ (omega arith) c.in-Some.ensures

pub returns-in-Some-clause-levels : goal.returns-in-Some-clause-levels
returns-in-Some-clause-levels g t c h b =
    let r = underfull_heir h c.args.root c.in-Some.child c.in-Some.ensures (omega arith) b in
    within_more r.below h _ (omega arith) (c.without_empty_roots.ensures.levels r.below r.underfull)
