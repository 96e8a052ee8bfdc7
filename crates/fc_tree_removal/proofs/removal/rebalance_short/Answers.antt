use Rattle.std.proofs.Common.{◌≡◌, ℕ, ◌+◌, ◌-◌, ◌<◌, length, sym, ap, ◌∙◌, arith}
use Rattle.fc_base.specs.Sizes.{capacity}
use Rattle.fc_tree_node.specs.declared.node.Node.{Node}
use Rattle.fc_tree_node.specs.Node.{own_pairs, child_at}
use Rattle.fc_tree_removal.specs.Rebalancing.{together, IsShortAt}
use Rattle.fc_tree_removal.proofs.Rebalanced.{IsPairAt, pair_short, pair_alike, merged_rebalanced, stolen_rebalanced}
use Rattle.fc_tree_node.proofs.Sizes.{level_size}
use Rattle.fc_tree_node.proofs.SiblingBlocks.{merged_blocks, shared_blocks}
use Rattle.fc_tree_removal.proofs.removal.rebalance_short.Given as given
use Rattle.fc_tree_removal.proofs.removal.rebalance_short.Goals as goal
use Rattle.fc_tree_removal.proofs.removal.rebalance_short.Goals.{After-saturating_sub-place, After-len-2}

siblings : (g : given.Over) (c : After-saturating_sub-place g) (h : ℕ) → IsShortAt h c.args.node.now c.args.index
    → IsPairAt h c.args.node.now c.saturating_sub-place.result
siblings g c h s = pair_short h c.args.node.now c.args.index _ c.saturating_sub-place.ensures s

abbrev pairs : {K V Z : Type 0} → Node K V Z → ℕ
pairs n = length (own_pairs n)

-- how many pairs the two children hold themselves
lengths : (g : given.Over) (c : After-len-2 g) → (length (own_pairs (child_at c.args.node.now c.saturating_sub-place.result)) ≡ c.len.result)
    × (length (own_pairs (child_at c.args.node.now (c.saturating_sub-place.result + 1))) ≡ c.len-2.result)
lengths g c =
    let e = ap pairs c.child.ensures in
    let f = ap pairs c.child-2.ensures in
    (sym (c.len.ensures.value ∙ e), sym (c.len-2.ensures.value ∙ f))

-- where they fit in one node, no pair is stolen
fit : (g : given.Over) (c : After-len-2 g) → c.len.result + c.len-2.result < capacity → capacity < together c.args.node.now (c.args.index - 1) → ⊥
fit g c h t = let l = lengths g c in let e = ap (together c.args.node.now) c.saturating_sub-place.ensures in omega arith

pub merge-requires-clause-alike : goal.merge-requires-clause-alike
merge-requires-clause-alike g c =
    let at = (goal.at.merge-requires-clause-alike g c).After-saturating_sub-place in
    pair_alike _ _ _ (siblings g at _ c.requires.at.1)

pub steal_left-requires-clause-alike : goal.steal_left-requires-clause-alike
steal_left-requires-clause-alike g c =
    let at = (goal.at.steal_left-requires-clause-alike g c).After-saturating_sub-place in
    pair_alike _ _ _ (siblings g at _ c.requires.at.1)

pub steal_right-requires-clause-alike : goal.steal_right-requires-clause-alike
steal_right-requires-clause-alike g c =
    let at = (goal.at.steal_right-requires-clause-alike g c).After-saturating_sub-place in
    pair_alike _ _ _ (siblings g at _ c.requires.at.1)

pub returns-then-len-lt-CAPACITY-clause-stolen_left : goal.returns-then-len-lt-CAPACITY-clause-stolen_left
returns-then-len-lt-CAPACITY-clause-stolen_left g c b d =
    absurd (fit g (goal.at.returns-then-len-lt-CAPACITY-clause-stolen_left g c).After-len-2 c.if-len-lt-CAPACITY.true b)

pub returns-then-len-lt-CAPACITY-clause-stolen_right : goal.returns-then-len-lt-CAPACITY-clause-stolen_right
returns-then-len-lt-CAPACITY-clause-stolen_right g c b d =
    absurd (fit g (goal.at.returns-then-len-lt-CAPACITY-clause-stolen_right g c).After-len-2 c.if-len-lt-CAPACITY.true b)

pub returns-then-len-lt-CAPACITY-clause-levels : goal.returns-then-len-lt-CAPACITY-clause-levels
returns-then-len-lt-CAPACITY-clause-levels g c h s =
    let at = goal.at.returns-then-len-lt-CAPACITY-clause-levels g c in
    let l = lengths g at.After-len-2 in
    merged_rebalanced h _ _ _ (siblings g at.After-saturating_sub-place h s) (omega arith) c.merge.ensures.merged

pub returns-then-index-gt0-clause-levels : goal.returns-then-index-gt0-clause-levels
returns-then-index-gt0-clause-levels g c h s =
    let at = goal.at.returns-then-index-gt0-clause-levels g c in
    let l = lengths g at.After-len-2 in
    let p = siblings g at.After-saturating_sub-place h s in
    let i : c.args.index ≡ c.saturating_sub-place.result + 1 = omega arith in
    let short = ap (λ k. length (own_pairs (child_at c.args.node.now k))) i in
    let top = level_size h _ p.left in
    stolen_rebalanced h _ _ _ _ p (omega arith) (omega arith) (omega arith) (omega arith) c.steal_left.ensures.shared

pub returns-else-index-gt0-clause-levels : goal.returns-else-index-gt0-clause-levels
returns-else-index-gt0-clause-levels g c h s =
    let at = goal.at.returns-else-index-gt0-clause-levels g c in
    let l = lengths g at.After-len-2 in
    let p = siblings g at.After-saturating_sub-place h s in
    let i : c.args.index ≡ c.saturating_sub-place.result = omega arith in
    let short = ap (λ k. length (own_pairs (child_at c.args.node.now k))) i in
    let top = level_size h _ p.right in
    stolen_rebalanced h _ _ _ _ p (omega arith) (omega arith) (omega arith) (omega arith) c.steal_right.ensures.shared

pub returns-then-len-lt-CAPACITY-clause-least : goal.returns-then-len-lt-CAPACITY-clause-least
returns-then-len-lt-CAPACITY-clause-least g c =
    let p = siblings g (goal.at.returns-then-len-lt-CAPACITY-clause-least g c).After-saturating_sub-place _ c.requires.at.1 in
    omega arith

pub returns-then-index-gt0-clause-least : goal.returns-then-index-gt0-clause-least
returns-then-index-gt0-clause-least g c =
    let p = siblings g (goal.at.returns-then-index-gt0-clause-least g c).After-saturating_sub-place _ c.requires.at.1 in
    omega arith

pub returns-else-index-gt0-clause-least : goal.returns-else-index-gt0-clause-least
returns-else-index-gt0-clause-least g c =
    let p = siblings g (goal.at.returns-else-index-gt0-clause-least g c).After-saturating_sub-place _ c.requires.at.1 in
    omega arith

pub returns-then-len-lt-CAPACITY-clause-blocks : goal.returns-then-len-lt-CAPACITY-clause-blocks
returns-then-len-lt-CAPACITY-clause-blocks g c =
    let p = siblings g (goal.at.returns-then-len-lt-CAPACITY-clause-blocks g c).After-saturating_sub-place _ c.requires.at.1 in
    let shrunk = returns-then-len-lt-CAPACITY-clause-levels g c _ c.requires.at.1 in
    merged_blocks _ _ _ p.inner shrunk.0.1 p.in_bounds c.merge.ensures.merged

pub returns-then-index-gt0-clause-blocks : goal.returns-then-index-gt0-clause-blocks
returns-then-index-gt0-clause-blocks g c =
    let p = siblings g (goal.at.returns-then-index-gt0-clause-blocks g c).After-saturating_sub-place _ c.requires.at.1 in
    let shrunk = returns-then-index-gt0-clause-levels g c _ c.requires.at.1 in
    shared_blocks _ _ _ _ p.inner shrunk.0.1 p.in_bounds (pair_alike _ _ _ p) c.steal_left.ensures.shared

pub returns-else-index-gt0-clause-blocks : goal.returns-else-index-gt0-clause-blocks
returns-else-index-gt0-clause-blocks g c =
    let p = siblings g (goal.at.returns-else-index-gt0-clause-blocks g c).After-saturating_sub-place _ c.requires.at.1 in
    let shrunk = returns-else-index-gt0-clause-levels g c _ c.requires.at.1 in
    shared_blocks _ _ _ _ p.inner shrunk.0.1 p.in_bounds (pair_alike _ _ _ p) c.steal_right.ensures.shared
