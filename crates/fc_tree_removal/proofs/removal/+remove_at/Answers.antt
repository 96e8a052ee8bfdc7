use Rattle.std.proofs.Common.{ℕ, get_or, ◌∙◌, arith}
use Rattle.fc_tree_node.specs.Node.{IsLevelled, IsSound}
use Rattle.fc_tree_node.proofs.Lent.{IsLent, replaced}
use Rattle.fc_tree_removal.proofs.Removed.{lent_onward, sound, lent_short, lent_lost, lent_rebalanced, IsPlaceStep, place_step, below_removed}
use Rattle.fc_tree_node.proofs.SiblingBlocks.{lent_blocks}
use Rattle.fc_tree_removal.proofs.removal.+remove_at.Given as given
use Rattle.fc_tree_removal.proofs.removal.+remove_at.Goals as goal
use Rattle.fc_tree_removal.proofs.removal.+remove_at.Goals.{After-child_in}

step : (g : given.Over) (t : ℕ) (c : After-child_in g t) → IsPlaceStep c.args.path.now c.args.node.now
step g t c = place_step c.args.path.now c.args.node.now c.if-path-eq1.false c.requires.place

pub child_in-requires : goal.child_in-requires
child_in-requires g t c = (place_step c.args.path.now c.args.node.now c.if-path-eq1.false c.requires.place).child

child : (g : given.Over) (t : ℕ) (c : After-child_in g t) (h : ℕ) → IsLevelled h c.args.node.now
    → IsLent IsLevelled IsSound h c.args.node.now c.child_in.result.now (get_or c.args.path.now 0 0)
child g t c h l = lent_onward h c.args.path.now _ _ (step g t c) l c.child_in.ensures.value

pub rebalance_child-requires : goal.rebalance_child-requires
rebalance_child-requires g t c =
    let l = child g t (goal.at.rebalance_child-requires g t c).After-child_in _ c.requires.sound.1.1 in
    (l.below, lent_short l c.requires.sound.1.0 (replaced _ _ _) (c.remove_at-pair.ensures.levels l.below (sound l)))

pub returns-clause-pairs : goal.returns-clause-pairs
returns-clause-pairs g t c =
    let p = (goal.at.returns-clause-pairs g t c).After-child_in in
    let l = child g t p _ c.requires.sound.1.1 in
    c.rebalance_child.ensures.pairs
    ∙ below_removed c.args.path.now _ _ _ _ (step g t p) l.inner (replaced _ _ _) l.is c.remove_at-pair.ensures.pairs

pub returns-clause-levels : goal.returns-clause-levels
returns-clause-levels g t c h s =
    let l = child g t (goal.at.returns-clause-levels g t c).After-child_in h s.1 in
    lent_rebalanced l _ s.0 (replaced _ _ _) (c.remove_at-pair.ensures.levels l.below (sound l)) (c.rebalance_child.ensures.levels l.below)

pub returns-clause-moves : goal.returns-clause-moves
returns-clause-moves g t c h s =
    let l = child g t (goal.at.returns-clause-moves g t c).After-child_in h s.1 in
    let x = c.remove_at-pair.ensures.moves l.below (sound l) in
    omega arith

pub returns-clause-fewest : goal.returns-clause-fewest
returns-clause-fewest g t c h s lost =
    let l = child g t (goal.at.returns-clause-fewest g t c).After-child_in h s.1 in
    let came = lent_lost l _ (replaced _ _ _) c.rebalance_child.ensures.whole lost in
    let x = c.remove_at-pair.ensures.fewest l.below (sound l) came.0 in
    let y = c.rebalance_child.ensures.least came.1 in
    omega arith

pub returns-clause-blocks : goal.returns-clause-blocks
returns-clause-blocks g t c =
    let l = child g t (goal.at.returns-clause-blocks g t c).After-child_in _ c.requires.sound.1.1 in
    let b = lent_blocks c.args.node.now _ _ _ (get_or c.args.path.now 0 0) l.inner l.place (replaced _ _ _) l.is c.remove_at-pair.ensures.blocks in
    omega (arith, b, c.rebalance_child.ensures.blocks)
