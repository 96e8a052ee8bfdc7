use Rattle.std.proofs.Common.{refl, ◌≡◌, ℕ, ◌+◌, length, ◌∙◌, arith}
use Rattle.std.proofs.lemmas.Bool.{false≢true}
use Rattle.fc_tree_node.specs.Node.{own_pairs, children_of, IsLevelled, IsSound}
use Rattle.fc_tree_node.proofs.Lent.{above, IsLent, replaced}
use Rattle.fc_tree_removal.proofs.Removed.{leaf_shrunk, none_leaf, get_there, lent_sound, sound, IsOwnSet, own_set}
use Rattle.fc_tree_removal.proofs.Removed.{own_short, own_lost, own_rebalanced, own_replaced}
use Rattle.fc_tree_node.proofs.BlockFacts.{blocks_leaf}
use Rattle.fc_tree_node.proofs.SiblingBlocks.{lent_blocks}
use Rattle.fc_tree_removal.proofs.RemovedBlocks.{kept_blocks}
use Rattle.fc_tree_removal.proofs.removal.remove_own.Given as given
use Rattle.fc_tree_removal.proofs.removal.remove_own.Goals as goal
use Rattle.fc_tree_removal.proofs.removal.remove_own.Goals.{After-child_in, After-replace_pair-pair}

pub returns-then-is_leaf-clause-pair : goal.returns-then-is_leaf-clause-pair
returns-then-is_leaf-clause-pair g c =
    get_there _ _ _ c.requires.place c.remove_leaf.ensures.value

pub returns-then-is_leaf-clause-levels : goal.returns-then-is_leaf-clause-levels
returns-then-is_leaf-clause-levels g c h s =
    leaf_shrunk h c.args.node.now _ c.args.index (c.if-is_leaf.ensures.0 refl) s.1 c.requires.place
    c.remove_leaf.ensures.pairs c.remove_leaf.ensures.leaf

pub child_in-requires : goal.child_in-requires
child_in-requires g c = let a = above IsLevelled _ _ (λ z. false≢true (c.if-is_leaf.ensures.1 z.1)) c.requires.sound.1.1 in omega (arith, a.levels.1)

next : (g : given.Over) (c : After-child_in g) (h : ℕ) → IsLevelled h c.args.node.now
    → IsLent IsLevelled IsSound h c.args.node.now c.child_in.result.now (c.args.index + 1)
next g c h l = lent_sound (above IsLevelled h _ (λ z. false≢true (c.if-is_leaf.ensures.1 z.1)) l) (omega arith) c.child_in.ensures.value

set : (g : given.Over) (c : After-replace_pair-pair g)
    → IsOwnSet c.args.node.now c.replace_pair-pair.new.self c.args.index c.remove_first-next.result c.remove_first-next.new.node
set g c = let r = c.replace_pair-pair.ensures in own_set c.args.node.now _ _ c.args.index _ _ (replaced _ _ _) r.pairs r.children

pub remove_first-next-requires : goal.remove_first-next-requires
remove_first-next-requires g c =
    let l = next g (goal.at.remove_first-next-requires g c).After-child_in _ c.requires.sound.1.1 in
    record { sound = (l.below, sound l) }

pub rebalance_child-requires : goal.rebalance_child-requires
rebalance_child-requires g c =
    let at = goal.at.rebalance_child-requires g c in
    let l = next g at.After-child_in _ c.requires.sound.1.1 in
    (l.below, own_short l c.requires.sound.1.0 (set g at.After-replace_pair-pair) (c.remove_first-next.ensures.levels l.below (sound l)))

pub returns-clause-pair : goal.returns-clause-pair
returns-clause-pair g c =
    let m = replaced c.args.node.now (c.args.index + 1) c.remove_first-next.new.node in
    get_there _ _ _ c.requires.place (rw m.same at c.replace_pair-pair.ensures.value)

pub returns-clause-pairs : goal.returns-clause-pairs
returns-clause-pairs g c =
    let at = goal.at.returns-clause-pairs g c in
    let l = next g at.After-child_in _ c.requires.sound.1.1 in
    c.rebalance_child.ensures.pairs ∙ own_replaced _ _ _ _ _ _ l (set g at.After-replace_pair-pair) c.remove_first-next.ensures.pairs

pub returns-clause-levels : goal.returns-clause-levels
returns-clause-levels g c h s =
    let at = goal.at.returns-clause-levels g c in
    let l = next g at.After-child_in h s.1 in
    own_rebalanced l _ s.0 (set g at.After-replace_pair-pair) (c.remove_first-next.ensures.levels l.below (sound l)) (c.rebalance_child.ensures.levels l.below)

pub returns-clause-moves : goal.returns-clause-moves
returns-clause-moves g c h s =
    let l = next g (goal.at.returns-clause-moves g c).After-child_in h s.1 in
    let x = c.remove_first-next.ensures.moves l.below (sound l) in
    omega arith

pub returns-then-is_leaf-clause-fewest : goal.returns-then-is_leaf-clause-fewest
returns-then-is_leaf-clause-fewest g c h s lost =
    let z = none_leaf h c.args.node.now (c.if-is_leaf.ensures.0 refl) s.1 in
    omega arith

pub returns-clause-fewest : goal.returns-clause-fewest
returns-clause-fewest g c h s lost =
    let at = goal.at.returns-clause-fewest g c in
    let l = next g at.After-child_in h s.1 in
    let came = own_lost l _ (set g at.After-replace_pair-pair) c.rebalance_child.ensures.whole lost in
    let x = c.remove_first-next.ensures.fewest l.below (sound l) came.0 in
    let y = c.rebalance_child.ensures.least came.1 in
    omega arith

pub returns-then-is_leaf-clause-blocks : goal.returns-then-is_leaf-clause-blocks
returns-then-is_leaf-clause-blocks g c =
    omega (arith, blocks_leaf c.args.node.now (c.if-is_leaf.ensures.0 refl), blocks_leaf c.remove_leaf.new.self c.remove_leaf.ensures.leaf)

pub returns-clause-blocks : goal.returns-clause-blocks
returns-clause-blocks g c =
    let l = next g (goal.at.returns-clause-blocks g c).After-child_in _ c.requires.sound.1.1 in
    let b = lent_blocks c.args.node.now _ _ _ (c.args.index + 1) l.inner l.place (replaced _ _ _) l.is c.remove_first-next.ensures.blocks in
    let some : length (children_of c.args.node.now) ≡ length (own_pairs c.args.node.now) + 1 = l.inner in
    let m = replaced c.args.node.now (c.args.index + 1) c.remove_first-next.new.node in
    let kept = kept_blocks _ c.replace_pair-pair.new.self (omega (arith, some, m.many)) c.replace_pair-pair.ensures.children in
    omega (arith, b, kept, c.rebalance_child.ensures.blocks)
