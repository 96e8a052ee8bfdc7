use Rattle.std.proofs.Common.{◌≡◌, ◌+◌, ◌-◌, arith}
use Rattle.fc_tree_insertion.proofs.Reservations.{level_least}
use Rattle.fc_tree_insertion.proofs.reservation.+levels_over.Goals as goal

pub returns-clause-least : goal.returns-clause-least
returns-clause-least t c h =
    let e : c.levels_over.result + 1 - 1 ≡ c.levels_over.result = omega arith in
    rw e (level_least c.args.pairs c.levels_over.result (omega arith) c.levels_over.ensures.some c.levels_over.ensures.least)
