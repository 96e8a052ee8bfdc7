use Rattle.std.proofs.Common.{◌≡◌, ℕ, suc, ◌∷◌, ◌++◌, length, ap, ◌∙◌, arith}
use Rattle.fc_tree_node.specs.Node.{pairs_of, IsLevelled}
use Rattle.fc_tree_insertion.proofs.InsertedPairs.{put_root}
use Rattle.fc_tree_append.proofs.UnderRoot.{IsUnderRoot, under_root_right, under_root_left, under_root_inner, under_root_alike, under_root_room, merged_right}
use Rattle.fc_tree_node.proofs.SiblingBlocks.{merged_blocks}
use Rattle.fc_tree_append.proofs.JoinedBlocks.{root_blocks}
use Rattle.fc_tree_append.proofs.join.join_under_root.Given as given
use Rattle.fc_tree_append.proofs.join.join_under_root.Goals as goal
use Rattle.fc_tree_append.proofs.join.join_under_root.Goals.{After-grow}

-- the new root, above two trees of one height
under_root : (g : given.Over) (c : goal.After-grow g) (h : ℕ) → IsLevelled h c.args.left → IsLevelled h c.args.right
    → IsUnderRoot h c.grow.new.root c.args.left c.args.pair c.args.right
under_root g c h a b = record { own = c.grow.ensures.pairs; children = c.grow.ensures.children; first = a; second = b }

-- and its pairs
all : (g : given.Over) (c : goal.After-grow g) → pairs_of c.grow.new.root ≡ pairs_of c.args.left ++ c.args.pair ∷ pairs_of c.args.right
all g c = put_root c.grow.new.root c.args.left c.args.right c.args.pair c.grow.ensures.pairs c.grow.ensures.children

pub merge-requires : goal.merge-requires
merge-requires g c =
    let k = under_root g (goal.at.merge-requires g c).After-grow c.requires.levels.0 c.requires.levels.1 c.requires.levels.2 in
    let own = ap length k.own in
    record { in_bounds = omega arith; inner = under_root_inner k; alike = under_root_alike k; room = under_root_room k (omega arith) }

pub rebalance-requires : goal.rebalance-requires
rebalance-requires g c =
    let k = under_root g (goal.at.rebalance-requires g c).After-grow c.requires.levels.0 c.requires.levels.1 c.requires.levels.2 in
    (suc c.requires.levels.0, merged_right k c.merge.new.self (omega arith) c.merge.ensures.merged)

pub returns-then-ours-theirs-lt-CAPACITY-clause-pairs : goal.returns-then-ours-theirs-lt-CAPACITY-clause-pairs
returns-then-ours-theirs-lt-CAPACITY-clause-pairs g c =
    c.rebalance.ensures.pairs ∙ c.merge.ensures.all_pairs ∙ all g (goal.at.returns-then-ours-theirs-lt-CAPACITY-clause-pairs g c).After-grow

pub returns-then-ours-theirs-lt-CAPACITY-clause-levels : goal.returns-then-ours-theirs-lt-CAPACITY-clause-levels
returns-then-ours-theirs-lt-CAPACITY-clause-levels g c h a b =
    let k = under_root g (goal.at.returns-then-ours-theirs-lt-CAPACITY-clause-levels g c).After-grow h a b in
    c.rebalance.ensures.levels (suc h) (merged_right k c.merge.new.self (omega arith) c.merge.ensures.merged)

pub rebalance-requires-then-ours-lt-MIN_LEN : goal.rebalance-requires-then-ours-lt-MIN_LEN
rebalance-requires-then-ours-lt-MIN_LEN g c =
    let k = under_root g (goal.at.rebalance-requires-then-ours-lt-MIN_LEN g c).After-grow c.requires.levels.0 c.requires.levels.1 c.requires.levels.2 in
    (suc c.requires.levels.0, under_root_left k (omega arith))

pub returns-then-ours-lt-MIN_LEN-clause-pairs : goal.returns-then-ours-lt-MIN_LEN-clause-pairs
returns-then-ours-lt-MIN_LEN-clause-pairs g c =
    c.rebalance-then-ours-lt-MIN_LEN.ensures.pairs ∙ all g (goal.at.returns-then-ours-lt-MIN_LEN-clause-pairs g c).After-grow

pub returns-then-ours-lt-MIN_LEN-clause-levels : goal.returns-then-ours-lt-MIN_LEN-clause-levels
returns-then-ours-lt-MIN_LEN-clause-levels g c h a b =
    let k = under_root g (goal.at.returns-then-ours-lt-MIN_LEN-clause-levels g c).After-grow h a b in
    c.rebalance-then-ours-lt-MIN_LEN.ensures.levels (suc h) (under_root_left k (omega arith))

pub rebalance-requires-2 : goal.rebalance-requires-2
rebalance-requires-2 g c =
    let k = under_root g (goal.at.rebalance-requires-2 g c).After-grow c.requires.levels.0 c.requires.levels.1 c.requires.levels.2 in
    (suc c.requires.levels.0, under_root_right k (omega arith))

pub returns-clause-pairs : goal.returns-clause-pairs
returns-clause-pairs g c = c.rebalance-2.ensures.pairs ∙ all g (goal.at.returns-clause-pairs g c).After-grow

pub returns-clause-levels : goal.returns-clause-levels
returns-clause-levels g c h a b =
    let k = under_root g (goal.at.returns-clause-levels g c).After-grow h a b in
    c.rebalance-2.ensures.levels (suc h) (under_root_right k (omega arith))

pub returns-then-ours-theirs-lt-CAPACITY-clause-blocks : goal.returns-then-ours-theirs-lt-CAPACITY-clause-blocks
returns-then-ours-theirs-lt-CAPACITY-clause-blocks g c =
    let at = (goal.at.returns-then-ours-theirs-lt-CAPACITY-clause-blocks g c).After-grow in
    let k = under_root g at c.requires.levels.0 c.requires.levels.1 c.requires.levels.2 in
    let own = ap length k.own in
    let root = root_blocks c.grow.new.root _ _ c.grow.ensures.children in
    let merged = merged_blocks 0 c.grow.new.root c.merge.new.self (under_root_inner k) c.merge.ensures.inner (omega arith) c.merge.ensures.merged in
    omega (arith, root, merged, c.rebalance.ensures.blocks)

pub returns-then-ours-lt-MIN_LEN-clause-blocks : goal.returns-then-ours-lt-MIN_LEN-clause-blocks
returns-then-ours-lt-MIN_LEN-clause-blocks g c =
    let root = root_blocks c.grow.new.root _ _ c.grow.ensures.children in
    omega (arith, root, c.rebalance-then-ours-lt-MIN_LEN.ensures.blocks)

pub returns-clause-blocks : goal.returns-clause-blocks
returns-clause-blocks g c = omega (arith, root_blocks c.grow.new.root _ _ c.grow.ensures.children, c.rebalance-2.ensures.blocks)
