use Rattle.std.proofs.Common.{◌+◌, refl, sym, subst, arith, inl, inr}
use Rattle.fc_tree_node.specs.Node.{child_at}
use Rattle.fc_tree_retain.specs.Rebalancing.{IsOneMet, AreTwoMet}
use Rattle.fc_tree_retain.proofs.Levels.{underfull_fits, underfull_alike}
use Rattle.fc_tree_retain.proofs.Meeting.{one_met, left_met, right_met}
use Rattle.fc_tree_retain.proofs.rebalancing.join.Goals as goal

pub merge-requires-clause-alike : goal.merge-requires-clause-alike
merge-requires-clause-alike g c = let s = c.requires.seam.1 in underfull_alike c.requires.seam.0 _ _ s.left s.right

pub bulk_steal_right-requires-clause-alike : goal.bulk_steal_right-requires-clause-alike
bulk_steal_right-requires-clause-alike g c = let s = c.requires.seam.1 in underfull_alike c.requires.seam.0 _ _ s.left s.right

pub bulk_steal_left-requires-clause-alike : goal.bulk_steal_left-requires-clause-alike
bulk_steal_left-requires-clause-alike g c = let s = c.requires.seam.1 in underfull_alike c.requires.seam.0 _ _ s.left s.right

pub returns-then-left-right-lt-CAPACITY-clause-joined : goal.returns-then-left-right-lt-CAPACITY-clause-joined
returns-then-left-right-lt-CAPACITY-clause-joined g c h s =
    let l = c.requires.left in
    let i = c.args.index in
    inl (
      refl,
      refl,
      subst (λ k. IsOneMet h i k c.args.node.now c.merge.new.self) (sym l)
          (one_met h i c.args.node.now c.merge.new.self s (omega arith) c.merge.ensures.merged c.merge.ensures.inner),
    )

pub returns-then-left-lt-MIN_LEN-clause-joined : goal.returns-then-left-lt-MIN_LEN-clause-joined
returns-then-left-lt-MIN_LEN-clause-joined g c h s =
    let l = c.requires.left in
    let i = c.args.index in
    let n = c.args.node.now in
    inr (
      refl,
      subst (λ k. AreTwoMet h i i k n c.bulk_steal_right.new.self) (sym l)
          (left_met h i _ n c.bulk_steal_right.new.self s (omega arith) (omega arith) (underfull_fits h (child_at n (i + 1)) s.right) (omega arith)
          c.bulk_steal_right.ensures.shared c.bulk_steal_right.ensures.inner),
    )

pub returns-clause-joined : goal.returns-clause-joined
returns-clause-joined g c h s =
    let i = c.args.index in
    let n = c.args.node.now in
    let x = underfull_fits h (child_at n i) s.left in
    inr (
      refl,
      right_met h i _ _ n c.bulk_steal_left.new.self s (omega arith) (omega arith) x (omega arith) (omega arith) c.bulk_steal_left.ensures.shared
          c.bulk_steal_left.ensures.inner,
    )
