use Rattle.std.proofs.Common.{◌+◌, ◌-◌, sym, subst, arith}
use Rattle.std.specs.Prelude.{take}
use Rattle.fc_tree_drain.specs.Opened.{before_back}
use Rattle.fc_tree_build.specs.Spine.{IsLastPair}
use Rattle.fc_tree_build.proofs.Ends.{taken, spine_at, end_last, end_none}
use Rattle.fc_tree_build.proofs.spine.last_of.Goals as goal
use Rattle.fc_tree_build.proofs.spine.last_of.Goals.{then-len-gt0, else-len-gt0}

pub loop-i-preserved : goal.loop-i-preserved
loop-i-preserved g c =
    let i = c.loop-i.invariant in
    let end = i.0 in
    let e = taken c.args.spine.now c.loop-i.i c.get-node.result.now (omega arith) c.get-node.ensures in
    let o = spine_at c.requires.0 c.args.spine.now c.loop-i.i c.get-node.result.now c.requires.1 (omega arith) c.get-node.ensures in (
      end,
      elim c.if-len-gt0.branch [
        | then-len-gt0 w ↦
            (
            let p = w.pair.ensures in
            subst (IsLastPair (before_back (take (c.loop-i.i + 1) c.args.spine.now))) (sym w.last-is)
            (end_last _ _ _ o.0 (w.len-then-len-gt0.result - 1) _ e o.1 (omega arith) p))
        | else-len-gt0 w ↦
            (
            subst (IsLastPair (before_back (take (c.loop-i.i + 1) c.args.spine.now))) (sym w.last-is)
            (subst (λ zs. IsLastPair zs c.loop-i.last) (sym (end_none _ _ _ o.0 e o.1 (omega arith))) i.1))
      ],
    )
