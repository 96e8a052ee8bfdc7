use Rattle.std.proofs.Common.{ℕ, suc, ◌<◌, ◌≤◌, length, sym, ap, subst, ◌∙◌, arith, rules}
use Rattle.std.proofs.lemmas.Bool.{false≢true}
use Rattle.fc_tree_node.specs.Node.{own_pairs, child_at, pairs_of, IsLeaf}
use Rattle.fc_tree_node.proofs.Lent.{replaced_same, replaced}
use Rattle.fc_tree_node.specs.Measures.{height_of}
use Rattle.fc_tree_retain.specs.Rebalancing.{IsSeam}
use Rattle.fc_tree_retain.proofs.Levels.{seam_height}
use Rattle.fc_tree_retain.proofs.Settling.{IsMetLeft, whole_seam_rebalanced, IsMetLent, met_lent, met_left, joined_seam_rebalanced}
use Rattle.fc_tree_retain.proofs.rebalancing.+rebalance_seam.Given as given
use Rattle.fc_tree_retain.proofs.rebalancing.+rebalance_seam.Goals as goal
use Rattle.fc_tree_retain.proofs.rebalancing.+rebalance_seam.Goals.{After-child_in}

lending : (g : given.Over) (t : ℕ) (c : After-child_in g t) (h : ℕ) → IsSeam h c.args.node.now c.args.index
    → IsMetLent h c.join-place.result.0 c.join-place.result.1 c.join-place.new.node c.child_in.result.now
lending g t c h s =
    met_lent h c.args.index _ _ c.join-place.result.2 c.args.node.now _ _ s (c.join-place.ensures.joined h s)
    (λ l. false≢true (c.if-not-is_leaf.ensures.1 (subst IsLeaf (sym c.child-3.ensures) l))) c.child_in.ensures.value

pub returns-then-right-ge-MIN_LEN-clause-seam_rebalanced : goal.returns-then-right-ge-MIN_LEN-clause-seam_rebalanced
returns-then-right-ge-MIN_LEN-clause-seam_rebalanced g t c h s =
    let n = c.args.node.now in
    let i = c.args.index in
    let l' = ap (λ m. length (own_pairs m)) c.child.ensures in
    let r' = ap (λ m. length (own_pairs m)) c.child-2.ensures in
    whole_seam_rebalanced h i n s (omega arith) (omega arith)

pub rebalance_seam-requires : goal.rebalance_seam-requires
rebalance_seam-requires g t c κs within =
    let n = c.args.node.now in
    let l = lending g t (goal.at.rebalance_seam-requires g t c).After-child_in c.requires.0 c.requires.1 in
    let p = seam_height c.requires.0 n c.args.index c.requires.1 in
    let q = seam_height l.below c.child_in.result.now c.join-place.result.1 l.met.0 in
    let falls : height_of c.child_in.result.now < height_of n = omega arith in
    (search rules, (search rules, (search rules, (search rules, (l.below, l.met.0)))))

pub returns-then-not-is_leaf-clause-pairs : goal.returns-then-not-is_leaf-clause-pairs
returns-then-not-is_leaf-clause-pairs g t c =
    let l = lending g t (goal.at.returns-then-not-is_leaf-clause-pairs g t c).After-child_in c.requires.0 c.requires.1 in
    let le : c.join-place.result.0 ≤ length (own_pairs c.join-place.new.node) = omega (arith, l.bounds, l.inner) in
    replaced_same (replaced _ _ _) l.inner le (c.rebalance_seam.ensures.pairs ∙ ap pairs_of l.is)
    ∙ c.join-place.ensures.pairs

pub returns-then-not-is_leaf-clause-seam_rebalanced : goal.returns-then-not-is_leaf-clause-seam_rebalanced
returns-then-not-is_leaf-clause-seam_rebalanced g t c h s =
    let mid = c.join-place.new.node in
    let place = c.join-place.result.0 in
    let seam = c.join-place.result.1 in
    let d = c.child_in.result.now in
    let d' = c.rebalance_seam.new.node in
    let l = lending g t (goal.at.returns-then-not-is_leaf-clause-seam_rebalanced g t c).After-child_in h s in
    let m = replaced mid place d' in
    let left : IsMetLeft (suc l.below) d d' = met_left l.below seam c.rebalance_seam.result d d' l.met
    (c.rebalance_seam.ensures.seam_rebalanced l.below l.met.0) in
    let kept : IsMetLeft h (child_at mid place) d' = subst (λ x. IsMetLeft h x d') l.is (subst (λ i. IsMetLeft i d d') (sym l.height) left) in
    joined_seam_rebalanced h c.args.index place seam c.join-place.result.2 c.args.node.now mid _ d' s (c.join-place.ensures.joined h s) m.child m.size kept
