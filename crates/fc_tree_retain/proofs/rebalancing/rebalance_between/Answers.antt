use Rattle.std.proofs.Common.{◌≡◌, ◌+◌, ◌-◌, arith, subst}
use Rattle.fc_tree_retain.proofs.Bordering.{IsBordering, bordering_start, bordering_seam}
use Rattle.fc_tree_retain.proofs.Bordering.{bordering_more, bordering_last, bordering_seam_rebalanced, bordering_end}
use Rattle.fc_tree_retain.proofs.rebalancing.rebalance_between.Given as given
use Rattle.fc_tree_retain.proofs.rebalancing.rebalance_between.Goals as goal
use Rattle.fc_tree_retain.proofs.rebalancing.rebalance_between.Goals.{After-loop}

pub loop-init : goal.loop-init
loop-init g c =
    bordering_start c.requires.0 c.args.node.now c.args.first c.args.last _ _ c.requires.1 c.saturating_sub-start.ensures (omega arith)

pub rebalance_seam-at-requires : goal.rebalance_seam-at-requires
rebalance_seam-at-requires g c = (
  c.requires.0,
  (bordering_seam c.args.node.now c.loop.node c.args.first c.args.last c.loop.at _ (c.args.last - (c.loop.counter + 1)) c.loop.invariant
      (omega arith) c.requires.0 c.requires.1).seam,
)

pub loop-preserved : goal.loop-preserved
loop-preserved g c =
    bordering_more c.requires.0 c.args.node.now c.loop.node _ c.args.first c.args.last c.loop.at (c.args.last - c.loop.counter) _ _ c.requires.1
    c.loop.invariant (omega arith) c.rebalance_seam-at.ensures.pairs c.rebalance_seam-at.ensures.seam_rebalanced

done : (g : given.Over) (c : After-loop g) → IsBordering c.args.node.now c.loop.node c.args.first c.args.last c.loop.at 0
done g c =
    let z : c.args.last - c.loop.counter ≡ 0 = omega arith in
    subst (λ k. IsBordering c.args.node.now c.loop.node c.args.first c.args.last c.loop.at k) z c.loop.invariant

pub rebalance_seam-requires : goal.rebalance_seam-requires
rebalance_seam-requires g c = (
  c.requires.0,
  (bordering_last c.args.node.now c.loop.node c.args.first c.args.last c.loop.at
      (done g (goal.at.rebalance_seam-requires g c).After-loop) (omega arith) c.requires.0 c.requires.1).0.seam,
)

pub returns-then-at-len-clause-underfull : goal.returns-then-at-len-clause-underfull
returns-then-at-len-clause-underfull g c h t =
    let x = bordering_last c.args.node.now c.loop.node c.args.first c.args.last c.loop.at (done g (goal.at.returns-then-at-len-clause-underfull g c).After-loop)
    (omega arith) h t in
    bordering_seam_rebalanced h c.loop.at _ c.loop.node _ x.0 x.1 (c.rebalance_seam.ensures.seam_rebalanced h x.0.seam)

pub returns-else-at-len-clause-underfull : goal.returns-else-at-len-clause-underfull
returns-else-at-len-clause-underfull g c h t =
    bordering_end c.args.node.now c.loop.node c.args.first c.args.last c.loop.at (done g (goal.at.returns-else-at-len-clause-underfull g c).After-loop)
    (omega arith)
    h t
