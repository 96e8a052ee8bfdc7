use Rattle.std.proofs.Common.{ℕ, get_or, arith}
use Rattle.fc_tree_node.specs.Node.{IsLevelled, IsSound}
use Rattle.fc_tree_node.proofs.Lent.{IsLent, replaced, replaced_levels}
use Rattle.fc_tree_removal.proofs.Removed.{lent_onward, IsPlaceStep, place_step}
use Rattle.fc_tree_removal.proofs.Replaced.{below_pairs}
use Rattle.fc_tree_node.proofs.BlockFacts.{replaced_blocks}
use Rattle.fc_tree_removal.proofs.replacement.+replace.Given as given
use Rattle.fc_tree_removal.proofs.replacement.+replace.Goals as goal
use Rattle.fc_tree_removal.proofs.replacement.+replace.Goals.{After-child_in}

step : (g : given.Over) (t : ℕ) (c : After-child_in g t) → IsPlaceStep c.args.path.now c.args.node.now
step g t c = place_step c.args.path.now c.args.node.now c.if-path-eq1.false c.requires.place

pub child_in-requires : goal.child_in-requires
child_in-requires g t c = (place_step c.args.path.now c.args.node.now c.if-path-eq1.false c.requires.place).child

child : (g : given.Over) (t : ℕ) (c : After-child_in g t) (h : ℕ) → IsLevelled h c.args.node.now
    → IsLent IsLevelled IsSound h c.args.node.now c.child_in.result.now (get_or c.args.path.now 0 0)
child g t c h l = lent_onward h c.args.path.now _ _ (step g t c) l c.child_in.ensures.value

pub returns-clause-pairs : goal.returns-clause-pairs
returns-clause-pairs g t c =
    let p = (goal.at.returns-clause-pairs g t c).After-child_in in
    let l = child g t p _ c.requires.levels.1 in
    below_pairs c.args.path.now _ _ _ _ c.args.pair (step g t p) l.inner (replaced _ _ _) l.is c.replace.ensures.pairs

pub returns-clause-levels : goal.returns-clause-levels
returns-clause-levels g t c h l =
    let a = child g t (goal.at.returns-clause-levels g t c).After-child_in h l in
    rw a.height (replaced_levels a.below (replaced _ _ _) a.levels (omega arith, c.replace.ensures.levels a.below a.child.1))

pub returns-clause-blocks : goal.returns-clause-blocks
returns-clause-blocks g t c =
    let p = (goal.at.returns-clause-blocks g t c).After-child_in in
    let l = child g t p _ c.requires.levels.1 in
    let b = replaced_blocks c.args.node.now _ c.child_in.result.now c.replace.new.node (get_or c.args.path.now 0 0) (step g t p).child (replaced _ _ _) l.is in
    omega (arith, b, c.replace.ensures.blocks)
