use Rattle.fc_tree_node.proofs.Bare.{same_ascending}
use Rattle.fc_tree_search.specs.Written.{written}
use Rattle.fc_tree_search.proofs.WrittenPairs.{bare_written, written_place, written_levels}
use Rattle.test_tree.proofs.search.write_at.Goals as goal

pub pair_at-requires : goal.pair_at-requires
pair_at-requires g c = written_place c.args.path.now c.args.root.now 100 c.requires.place

pub get-requires-clause-levels : goal.get-requires-clause-levels
get-requires-clause-levels g c =
    let l = c.requires.levels in
    (l.0, l.1, written_levels c.args.path.now l.0 c.args.root.now 100 l.2)

pub get-requires-clause-order : goal.get-requires-clause-order
get-requires-clause-order g c =
    let n = c.args.root.now in
    same_ascending n (written n c.args.path.now 100) (bare_written c.args.path.now n 100) _ c.requires.order
