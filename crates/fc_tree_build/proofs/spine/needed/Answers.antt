use Rattle.std.proofs.Common.{◌≡◌, ◌+◌, ◌≤◌, sym, ap, ◌∙◌, arith}
use Rattle.std.specs.Prelude.{take}
use Rattle.fc_tree_build.specs.Spares.{needed}
use Rattle.fc_tree_build.proofs.SpineFacts.{needed_full, needed_room}
use Rattle.fc_tree_build.proofs.Ends.{taken}
use Rattle.fc_tree_build.proofs.spine.needed.Goals as goal
use Rattle.fc_tree_build.proofs.spine.needed.Goals.{then-len-lt-CAPACITY, else-len-lt-CAPACITY}

pub loop-i-preserved : goal.loop-i-preserved
loop-i-preserved g c =
    let i = c.loop-i.invariant in
    let end = i.0 in
    let e = taken c.args.spine.now c.loop-i.i c.get.result.now (omega arith) c.get.ensures in
    let more = ap (λ n. n + 1) i.1 in
    let one = c.if-len-lt-CAPACITY in
    let next : (one.count ≡ needed (take (c.loop-i.i + 1) c.args.spine.now)) × (one.count ≤ c.loop-i.i + 1 + 1) = elim one.branch [
      | then-len-lt-CAPACITY w ↦ ((w.count-is ∙ sym (needed_room _ _ _ e (omega arith)), omega arith))
      | else-len-lt-CAPACITY w ↦ ((w.count-is ∙ more ∙ sym (needed_full _ _ _ e (omega arith)), omega arith))
    ] in
    (end, next.0, next.1)
