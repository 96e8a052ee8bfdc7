use Rattle.std.proofs.Common.{refl, ℕ, ◌++◌, ◌∷◌, [], ◌-◌, ◌<◌, length, ap, sym, ◌∙◌, arith, rules}
use Rattle.std.proofs.lemmas.Bool.{false≢true}
use Rattle.fc_tree_node.specs.Node.{pairs_of, IsLevelled, IsSound}
use Rattle.fc_tree_node.proofs.Lent.{above, IsLent, replaced}
use Rattle.fc_tree_removal.proofs.Removed.{leaf_shrunk, none_leaf, lent_sound, sound, lent_short, lent_lost, lent_rebalanced}
use Rattle.fc_tree_removal.proofs.Removed.{last_removed, last_taken, fewer_last}
use Rattle.fc_tree_node.proofs.BlockFacts.{blocks_leaf}
use Rattle.fc_tree_node.proofs.SiblingBlocks.{lent_blocks}
use Rattle.fc_tree_removal.proofs.first_last.+remove_last.Given as given
use Rattle.fc_tree_removal.proofs.first_last.+remove_last.Goals as goal
use Rattle.fc_tree_removal.proofs.first_last.+remove_last.Goals.{After-child_in}

pub returns-then-is_leaf-clause-pairs : goal.returns-then-is_leaf-clause-pairs
returns-then-is_leaf-clause-pairs g t c =
    let x = c.remove_leaf.result in
    last_taken c.args.node.now c.remove_leaf.new.self (c.len-end.result - 1) x (c.if-is_leaf.ensures.0 refl) c.remove_leaf.ensures.leaf (omega arith)
    c.remove_leaf.ensures.value
    c.remove_leaf.ensures.pairs

pub returns-then-is_leaf-clause-levels : goal.returns-then-is_leaf-clause-levels
returns-then-is_leaf-clause-levels g t c h s =
    leaf_shrunk h c.args.node.now _ (c.len-end.result - 1) (c.if-is_leaf.ensures.0 refl) s.1 (omega arith)
    c.remove_leaf.ensures.pairs c.remove_leaf.ensures.leaf

pub child_in-requires : goal.child_in-requires
child_in-requires g t c = let a = above IsLevelled _ _ (λ z. false≢true (c.if-is_leaf.ensures.1 z.1)) c.requires.sound.1.1 in omega (arith, a.levels.1)

child : (g : given.Over) (t : ℕ) (c : After-child_in g t) (h : ℕ) → IsLevelled h c.args.node.now
    → IsLent IsLevelled IsSound h c.args.node.now c.child_in.result.now c.len-end.result
child g t c h l = lent_sound (above IsLevelled h _ (λ z. false≢true (c.if-is_leaf.ensures.1 z.1)) l) (omega arith) c.child_in.ensures.value

pub remove_last-pair-requires : goal.remove_last-pair-requires
remove_last-pair-requires g t c κs within =
    let l = child g t (goal.at.remove_last-pair-requires g t c).After-child_in _ c.requires.sound.1.1 in
    let falls : length (pairs_of c.child_in.result.now) < length (pairs_of c.args.node.now) =
    fewer_last l.below _ _ c.len-end.result l.levels c.requires.sound.1.0 c.len-end.ensures.value l.is in
    (search rules, (search rules, (search rules, (search rules, (l.below, sound l)))))

pub rebalance_child-requires : goal.rebalance_child-requires
rebalance_child-requires g t c =
    let l = child g t (goal.at.rebalance_child-requires g t c).After-child_in _ c.requires.sound.1.1 in
    (l.below, lent_short l c.requires.sound.1.0 (replaced _ _ _) (c.remove_last-pair.ensures.levels l.below (sound l)))

pub returns-clause-pairs : goal.returns-clause-pairs
returns-clause-pairs g t c =
    let l = child g t (goal.at.returns-clause-pairs g t c).After-child_in _ c.requires.sound.1.1 in
    last_removed _ _ _ _ _ _ c.len-end.ensures.value l.inner (replaced _ _ _) l.is c.remove_last-pair.ensures.pairs
    ∙ ap (λ zs. zs ++ c.remove_last-pair.result ∷ []) (sym c.rebalance_child.ensures.pairs)

pub returns-clause-levels : goal.returns-clause-levels
returns-clause-levels g t c h s =
    let l = child g t (goal.at.returns-clause-levels g t c).After-child_in h s.1 in
    lent_rebalanced l _ s.0 (replaced _ _ _) (c.remove_last-pair.ensures.levels l.below (sound l)) (c.rebalance_child.ensures.levels l.below)

pub returns-clause-moves : goal.returns-clause-moves
returns-clause-moves g t c h s =
    let l = child g t (goal.at.returns-clause-moves g t c).After-child_in h s.1 in
    let x = c.remove_last-pair.ensures.moves l.below (sound l) in
    omega arith

pub returns-then-is_leaf-clause-fewest : goal.returns-then-is_leaf-clause-fewest
returns-then-is_leaf-clause-fewest g t c h s lost =
    let z = none_leaf h c.args.node.now (c.if-is_leaf.ensures.0 refl) s.1 in
    omega arith

pub returns-clause-fewest : goal.returns-clause-fewest
returns-clause-fewest g t c h s lost =
    let l = child g t (goal.at.returns-clause-fewest g t c).After-child_in h s.1 in
    let came = lent_lost l _ (replaced _ _ _) c.rebalance_child.ensures.whole lost in
    let x = c.remove_last-pair.ensures.fewest l.below (sound l) came.0 in
    let y = c.rebalance_child.ensures.least came.1 in
    omega arith

pub returns-then-is_leaf-clause-blocks : goal.returns-then-is_leaf-clause-blocks
returns-then-is_leaf-clause-blocks g t c =
    omega (arith, blocks_leaf c.args.node.now (c.if-is_leaf.ensures.0 refl), blocks_leaf c.remove_leaf.new.self c.remove_leaf.ensures.leaf)

pub returns-clause-blocks : goal.returns-clause-blocks
returns-clause-blocks g t c =
    let l = child g t (goal.at.returns-clause-blocks g t c).After-child_in _ c.requires.sound.1.1 in
    let b = lent_blocks c.args.node.now _ _ _ c.len-end.result l.inner l.place (replaced _ _ _) l.is c.remove_last-pair.ensures.blocks in
    omega (arith, b, c.rebalance_child.ensures.blocks)
