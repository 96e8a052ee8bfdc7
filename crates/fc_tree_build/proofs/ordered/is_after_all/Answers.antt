use Rattle.std.proofs.Common.{sym, ◌∙◌}
use Rattle.fc_tree_build.proofs.Ends.{less_if}
use Rattle.fc_tree_build.proofs.OrderedFacts.{after}
use Rattle.fc_tree_build.proofs.ordered.is_after_all.Goals as goal

pub returns-in-Some : goal.returns-in-Some
returns-in-Some g c h =
    after g.K.Ord.cmp c.args.tree.now.pairs c.in-Some.ensures.0 c.in-Some.last.now c.args.key.now g.met.K.Ord.total c.in-Some.ensures.1 c.requires
    (sym c.cmp.ensures ∙ less_if _ _ c.is_lt.ensures h)
