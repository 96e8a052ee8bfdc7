use Rattle.std.proofs.Common.{◌∙◌}
use Rattle.fc_tree_split.proofs.Cuts.{cut_path, cut_in_two}
use Rattle.fc_tree_split.proofs.cutting.cut.Goals as goal

pub cut_into-requires-clause-path : goal.cut_into-requires-clause-path
cut_into-requires-clause-path g c = (cut_path _ _ c.args.root c.requires.levels.1 c.requires.path).path

pub cut_into-requires-clause-levels : goal.cut_into-requires-clause-levels
cut_into-requires-clause-levels g c =
    let l = c.requires.levels.1 in (
      c.requires.levels.0,
      (cut_path _ _ c.args.root l c.requires.path).short,
      l,
      c.requires.border _ l,
    )

pub returns-clause-pairs : goal.returns-clause-pairs
returns-clause-pairs g c =
    cut_in_two _ _ c.args.root _ _ c.requires.levels.1 (c.rebalance_right.ensures.pairs ∙ c.cut_into.ensures.front)
    (c.rebalance_left.ensures.pairs ∙ c.cut_into.ensures.back)
