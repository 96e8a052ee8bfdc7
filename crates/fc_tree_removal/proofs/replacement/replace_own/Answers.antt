use Rattle.fc_tree_removal.proofs.Removed.{get_there}
use Rattle.fc_tree_removal.proofs.Replaced.{set_size, set_levels, set_pairs}
use Rattle.fc_tree_removal.proofs.RemovedBlocks.{set_blocks}
use Rattle.fc_tree_removal.proofs.replacement.replace_own.Goals as goal

pub returns-clause-old : goal.returns-clause-old
returns-clause-old g c = get_there _ _ _ c.requires.place c.replace_pair.ensures.value

pub returns-clause-pairs : goal.returns-clause-pairs
returns-clause-pairs g c =
    let r = c.replace_pair.ensures in
    set_pairs c.requires.levels.0 _ _ c.args.index c.args.pair (record { pairs = r.pairs; children = r.children; leaf = r.leaf }) c.requires.levels.1
    c.requires.place

pub returns-clause-size : goal.returns-clause-size
returns-clause-size g c =
    let r = c.replace_pair.ensures in
    set_size _ _ c.args.index c.args.pair (record { pairs = r.pairs; children = r.children; leaf = r.leaf })

pub returns-clause-levels : goal.returns-clause-levels
returns-clause-levels g c h l =
    let r = c.replace_pair.ensures in
    set_levels h _ _ c.args.index c.args.pair (record { pairs = r.pairs; children = r.children; leaf = r.leaf }) l

pub returns-clause-blocks : goal.returns-clause-blocks
returns-clause-blocks g c =
    let r = c.replace_pair.ensures in
    set_blocks c.requires.levels.0 _ _ c.args.index c.args.pair (record { pairs = r.pairs; children = r.children; leaf = r.leaf }) c.requires.levels.1
