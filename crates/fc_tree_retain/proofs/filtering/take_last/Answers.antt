use Rattle.fc_tree_retain.proofs.filtering.take_last.Goals as goal

pub take_last_of_underfull-requires : goal.take_last_of_underfull-requires
take_last_of_underfull-requires g c = record { underfull = rw c.if-rebalances.true at c.requires.levels }

pub returns-then-rebalances-clause-levels : goal.returns-then-rebalances-clause-levels
returns-then-rebalances-clause-levels g c = rw c.if-rebalances.true c.take_last_of_underfull.ensures.underfull

pub take_last_of_unbalanced-requires : goal.take_last_of_unbalanced-requires
take_last_of_unbalanced-requires g c = record { unbalanced = rw c.if-rebalances.false at c.requires.levels }

pub returns-else-rebalances-clause-levels : goal.returns-else-rebalances-clause-levels
returns-else-rebalances-clause-levels g c = rw c.if-rebalances.false c.take_last_of_unbalanced.ensures.unbalanced
