use Rattle.std.proofs.Common.{refl, ℕ, ◌∷◌, ap, sym, ◌∙◌, arith}
use Rattle.std.proofs.lemmas.Bool.{false≢true}
use Rattle.fc_tree_node.specs.Node.{IsLevelled, IsSound}
use Rattle.fc_tree_node.proofs.Lent.{above, IsLent, replaced}
use Rattle.fc_tree_removal.proofs.Removed.{none_leaf, lent_sound, sound, lent_short, lent_lost, lent_rebalanced, first_removed}
use Rattle.fc_tree_node.proofs.BlockFacts.{blocks_leaf}
use Rattle.fc_tree_node.proofs.SiblingBlocks.{lent_blocks}
use Rattle.fc_tree_removal.proofs.removal.+remove_first.Given as given
use Rattle.fc_tree_removal.proofs.removal.+remove_first.Goals as goal
use Rattle.fc_tree_removal.proofs.removal.+remove_first.Goals.{After-child_in}

pub child_in-requires : goal.child_in-requires
child_in-requires g t c = let a = above IsLevelled _ _ (λ z. false≢true (c.if-is_leaf.ensures.1 z.1)) c.requires.sound.1.1 in omega (arith, a.levels.1)

child : (g : given.Over) (t : ℕ) (c : After-child_in g t) (h : ℕ) → IsLevelled h c.args.node.now
    → IsLent IsLevelled IsSound h c.args.node.now c.child_in.result.now 0
child g t c h l = lent_sound (above IsLevelled h _ (λ z. false≢true (c.if-is_leaf.ensures.1 z.1)) l) (omega arith) c.child_in.ensures.value

pub rebalance_child-requires : goal.rebalance_child-requires
rebalance_child-requires g t c =
    let l = child g t (goal.at.rebalance_child-requires g t c).After-child_in _ c.requires.sound.1.1 in
    (l.below, lent_short l c.requires.sound.1.0 (replaced _ _ _) (c.remove_first-pair.ensures.levels l.below (sound l)))

pub returns-clause-pairs : goal.returns-clause-pairs
returns-clause-pairs g t c =
    let l = child g t (goal.at.returns-clause-pairs g t c).After-child_in _ c.requires.sound.1.1 in
    first_removed _ _ _ _ _ l.inner (replaced _ _ _) l.is c.remove_first-pair.ensures.pairs
    ∙ ap (λ zs. c.remove_first-pair.result ∷ zs) (sym c.rebalance_child.ensures.pairs)

pub returns-clause-levels : goal.returns-clause-levels
returns-clause-levels g t c h s =
    let l = child g t (goal.at.returns-clause-levels g t c).After-child_in h s.1 in
    lent_rebalanced l _ s.0 (replaced _ _ _) (c.remove_first-pair.ensures.levels l.below (sound l)) (c.rebalance_child.ensures.levels l.below)

pub returns-clause-moves : goal.returns-clause-moves
returns-clause-moves g t c h s =
    let l = child g t (goal.at.returns-clause-moves g t c).After-child_in h s.1 in
    let x = c.remove_first-pair.ensures.moves l.below (sound l) in
    omega arith

pub returns-then-is_leaf-clause-fewest : goal.returns-then-is_leaf-clause-fewest
returns-then-is_leaf-clause-fewest g t c h s lost =
    let z = none_leaf h c.args.node.now (c.if-is_leaf.ensures.0 refl) s.1 in
    omega arith

pub returns-clause-fewest : goal.returns-clause-fewest
returns-clause-fewest g t c h s lost =
    let l = child g t (goal.at.returns-clause-fewest g t c).After-child_in h s.1 in
    let came = lent_lost l _ (replaced _ _ _) c.rebalance_child.ensures.whole lost in
    let x = c.remove_first-pair.ensures.fewest l.below (sound l) came.0 in
    let y = c.rebalance_child.ensures.least came.1 in
    omega arith

pub returns-then-is_leaf-clause-blocks : goal.returns-then-is_leaf-clause-blocks
returns-then-is_leaf-clause-blocks g t c =
    omega (arith, blocks_leaf c.args.node.now (c.if-is_leaf.ensures.0 refl), blocks_leaf c.remove_leaf.new.self c.remove_leaf.ensures.leaf)

pub returns-clause-blocks : goal.returns-clause-blocks
returns-clause-blocks g t c =
    let l = child g t (goal.at.returns-clause-blocks g t c).After-child_in _ c.requires.sound.1.1 in
    let b = lent_blocks c.args.node.now _ _ _ 0 l.inner l.place (replaced _ _ _) l.is c.remove_first-pair.ensures.blocks in
    omega (arith, b, c.rebalance_child.ensures.blocks)
