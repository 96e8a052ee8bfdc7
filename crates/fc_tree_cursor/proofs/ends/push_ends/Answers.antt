use Rattle.std.proofs.Common.{length}
use Rattle.fc_tree_node.specs.Node.{pairs_of}
use Rattle.fc_tree_node.specs.Path.{before_gap}
use Rattle.fc_tree_cursor.proofs.Bounds.{from_nothing}
use Rattle.fc_tree_cursor.proofs.Turns.{AreEnds, ends_told}
use Rattle.fc_tree_cursor.proofs.ends.push_ends.Given as given
use Rattle.fc_tree_cursor.proofs.ends.push_ends.Goals as goal
use Rattle.fc_tree_cursor.proofs.ends.push_ends.Goals.{After-push_both}

ends : (g : given.Over) (c : After-push_both g)
    → AreEnds g.met.Q.Query.fits g.Q.Query.sought c.args.lo.now c.args.hi.now (pairs_of c.args.root.now)
    (length (before_gap c.push_both.new.front c.args.root.now)) (length (before_gap c.push_both.new.back c.args.root.now))
ends g c =
    let f = (from_nothing _ _ _ _ c.requires.start.0 c.push_both.ensures.front).1 in
    let b = (from_nothing _ _ _ _ c.requires.start.1 c.push_both.ensures.back).1 in
    ends_told g.met.Q.Query.fits g.Q.Query.sought c.args.lo.now c.args.hi.now _ _ _ _ _ c.start_of.ensures c.stop_of.ensures f b

pub returns-clause-front : goal.returns-clause-front
returns-clause-front g c = (ends g (goal.at.returns-clause-front g c).After-push_both).0

pub returns-clause-back : goal.returns-clause-back
returns-clause-back g c = (ends g (goal.at.returns-clause-back g c).After-push_both).1
