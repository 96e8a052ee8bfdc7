use Rattle.std.proofs.Common.{◌-◌, arith}
use Rattle.std.proofs.lemmas.Bool.{ltb-true, lt-ltb}
use Rattle.fc_tree_build.proofs.SpineFacts.{needed_room, last_has_room}
use Rattle.fc_tree_build.proofs.Ends.{last_taken}
use Rattle.fc_tree_build.proofs.spine.has_room.Goals as goal

pub returns-then-len-gt0 : goal.returns-then-len-gt0
returns-then-len-gt0 g c =
    let last = last_taken c.args.spine.now (c.len-len.result - 1) c.get.result.now (omega arith) c.get.ensures in
    (λ room. let less = ltb-true _ _ room in needed_room _ _ _ last (omega arith), λ none. let less = last_has_room _ _ _ last none in lt-ltb _ _ (omega arith))
