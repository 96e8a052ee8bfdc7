use Rattle.std.proofs.Common.{arith}
use Rattle.callers_of_map.proofs.requests.copy_below_thousand.Goals as goal

pub returns : goal.returns
returns c =
    let held = c.held_within.ensures in
    omega (arith, c.try_clone_asked.ensures.at_most, held.blocks, held.nodes, held.inner, c.requires.few)
