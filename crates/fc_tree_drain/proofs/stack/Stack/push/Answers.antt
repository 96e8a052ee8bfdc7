use Rattle.std.proofs.Common.{map, ap, ◌∙◌, Some, arith}
use Rattle.fc_tree_drain.proofs.Cells.{made, cells_length, push_cells}
use Rattle.fc_tree_drain.proofs.stack.Stack.push.Goals as goal

pub invariant_of-self : goal.invariant_of-self
invariant_of-self g c =
    let h = c.self.invariant.0 ∙ ap (map Some) c.self.view_is in
    let e = push_cells c.self.inside.cells.items c.push.new.self.items c.args.self.now c.args.item h c.push.ensures.items in
    ((made _ _ e).0, omega (arith, cells_length _ _ h))

pub returns : goal.returns
returns g c =
    let h = c.self.invariant.0 ∙ ap (map Some) c.self.view_is in
    (made _ _ (push_cells c.self.inside.cells.items c.push.new.self.items c.args.self.now c.args.item h c.push.ensures.items)).1
