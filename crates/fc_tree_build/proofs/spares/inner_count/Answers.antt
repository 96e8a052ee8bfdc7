use Rattle.std.proofs.Common.{◌≡◌, ◌*◌, ◌^◌, pow-suc, arith}
use Rattle.fc_base.specs.Sizes.{most_children, most_height, most_levels}
use Rattle.fc_base.proofs.Sizes.{digits_enough}
use Rattle.fc_tree_build.proofs.spares.inner_count.Goals as goal

pub returns : goal.returns
returns c =
    let high = digits_enough in
    let last : most_children ^ most_levels ≡ most_children * most_children ^ most_height = pow-suc most_children most_height in
    c.nodes_above.ensures.value most_levels (omega arith)
