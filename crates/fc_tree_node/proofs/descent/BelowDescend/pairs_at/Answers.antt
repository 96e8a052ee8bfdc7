use Rattle.std.proofs.Common.{get_or, refl, ◌∙◌}
use Rattle.std.proofs.lemmas.List.{get_or_read}
use Rattle.fc_tree_node.specs.Node.{children_of}
use Rattle.fc_tree_node.proofs.Ways.{below_there, below_with, below_pairs}
use Rattle.fc_tree_node.proofs.descent.BelowDescend.pairs_at.Goals as goal

pub returns-else-way-eq0 : goal.returns-else-way-eq0
returns-else-way-eq0 g c =
    let way = c.args.way.now in
    let n = c.args.node.now in
    let d = c.child_in.result.now in
    let more = c.if-way-eq0.false in
    let is = get_or_read (children_of n) (get_or way 0 0) d (below_there way n more c.requires.way) c.child_in.ensures.value n in (
      (refl, λ ps. below_with way n d ps more is),
      record { writes_back = tt; value = c.pairs_at.ensures.value ∙ below_pairs way n d more is },
    )
