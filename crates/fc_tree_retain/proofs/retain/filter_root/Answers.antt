use Rattle.std.proofs.Common.{ℕ, ◌≤◌, Some, sym, subst, ◌∙◌}
use Rattle.fc_base.specs.Sizes.{most_height}
use Rattle.fc_tree_node.specs.Tree.{IsSoundMap}
use Rattle.fc_tree_split.proofs.Cuts.{within_sound}
use Rattle.fc_tree_retain.specs.Unbalanced.{IsUnbalanced}
use Rattle.fc_tree_retain.proofs.Levels.{levelled_unbalanced}
use Rattle.fc_tree_retain.proofs.retain.filter_root.Given as given
use Rattle.fc_tree_retain.proofs.retain.filter_root.Goals as goal
use Rattle.fc_tree_retain.proofs.retain.filter_root.Goals.{In-Some}

root_unbalanced : (g : given.Over) (c : In-Some g) → (h : ℕ) × (h ≤ most_height) × IsUnbalanced h c.in-Some.root
root_unbalanced g c =
    let s : IsSoundMap (Some c.in-Some.root) = subst IsSoundMap (sym c.take.ensures.value ∙ c.in-Some.is) c.requires.sound in
    (s.0, s.1, levelled_unbalanced s.0 c.in-Some.root s.2.1)

pub filter_subtree-requires-clause-unbalanced : goal.filter_subtree-requires-clause-unbalanced
filter_subtree-requires-clause-unbalanced g c = let s = root_unbalanced g (goal.at.filter_subtree-requires-clause-unbalanced g c).In-Some in (s.0, s.2)

pub rebalance-requires : goal.rebalance-requires
rebalance-requires g c = let s = root_unbalanced g
    (goal.at.rebalance-requires g c).In-Some in record { unbalanced = (s.0, c.filter_subtree.ensures.unbalanced s.0 s.2) }

pub without_empty_roots-requires : goal.without_empty_roots-requires
without_empty_roots-requires g c =
    let s = root_unbalanced g (goal.at.without_empty_roots-requires g c).In-Some in
    (s.0, c.rebalance.ensures.levels s.0 (c.filter_subtree.ensures.unbalanced s.0 s.2))

pub returns-in-Some-clause-sound : goal.returns-in-Some-clause-sound
returns-in-Some-clause-sound g c =
    let s = root_unbalanced g (goal.at.returns-in-Some-clause-sound g c).In-Some in
    within_sound s.0 _ s.1 (c.without_empty_roots.ensures.levels s.0 (c.rebalance.ensures.levels s.0 (c.filter_subtree.ensures.unbalanced s.0 s.2)))
