use Rattle.std.proofs.Common.{arith}
use Rattle.std.proofs.lemmas.Grind.{common_steps}
use Rattle.fc_tree_cursor.proofs.Sought.{left_found}
use Rattle.fc_tree_cursor.proofs.span.Span.next_back_of_any_leaf.Goals as goal

pub returns-then-not-self : goal.returns-then-not-self
returns-then-not-self g c =
    let s = c.next_back_run-step in
    let same = left_found c.self.inside.root.now c.find_missing_ends.new.front s.new.back c.self.invariant.0 s.ensures.ends in
    grind (arith, common_steps, same)
