use Rattle.fc_tree_insertion.proofs.Reservations.{fewest_is}
use Rattle.fc_tree_insertion.proofs.reservation.Reservation.try_new_asked.Goals as goal

pub returns-in_err-pool-clause-at_most : goal.returns-in_err-pool-clause-at_most
returns-in_err-pool-clause-at_most g c levels fewest =
    let counted = c.levels_over-levels.ensures in
    rw (fewest_is levels c.levels_over-levels.result _ fewest (counted.some, counted.over, counted.least)) c.try_new.ensures.at_most

pub returns-clause-requests : goal.returns-clause-requests
returns-clause-requests g c levels fewest =
    let counted = c.levels_over-levels.ensures in
    rw (fewest_is levels c.levels_over-levels.result _ fewest (counted.some, counted.over, counted.least)) c.in_ok-pool.ensures.requests

pub returns-clause-at_most : goal.returns-clause-at_most
returns-clause-at_most g c levels fewest =
    let counted = c.levels_over-levels.ensures in
    rw (fewest_is levels c.levels_over-levels.result _ fewest (counted.some, counted.over, counted.least)) c.try_new.ensures.at_most
