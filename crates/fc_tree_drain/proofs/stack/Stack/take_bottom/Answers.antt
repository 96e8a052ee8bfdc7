use Rattle.std.proofs.Common.{◌≡◌, get_or, map, ap, ◌∙◌, Some, arith}
use Rattle.std.specs.List.{remove}
use Rattle.fc_tree_drain.proofs.Cells.{made, IsTaken, take_cells}
use Rattle.fc_tree_drain.proofs.stack.Stack.take_bottom.Given as given
use Rattle.fc_tree_drain.proofs.stack.Stack.take_bottom.Goals as goal
use Rattle.fc_tree_drain.proofs.stack.Stack.take_bottom.Goals.{After-remove}

taken : (g : given.Over) (c : goal.After-remove g) → c.remove.result ≡ get_or c.self.inside.cells.items 0 c.remove.result
    → c.remove.new.self.items ≡ remove c.self.inside.cells.items 0 → IsTaken c.args.self.now c.remove.new.self.items c.remove.result
taken g c e f = take_cells c.self.inside.cells.items _ c.args.self.now _ c.requires (c.self.invariant.0 ∙ ap (map Some) c.self.view_is) e f

pub unreachable-requires : goal.unreachable-requires
unreachable-requires g c =
    let p = taken g (goal.at.unreachable-requires g c).After-remove c.remove.ensures.value c.remove.ensures.items in
    cc (p.is, c.in_default.is)

pub invariant_of-self : goal.invariant_of-self
invariant_of-self g c =
    let p = taken g (goal.at.invariant_of-self g c).After-remove c.remove.ensures.value c.remove.ensures.items in
    ((made _ _ p.left).0, omega (arith, c.remove.ensures.len))

pub returns : goal.returns
returns g c =
    let p = taken g (goal.at.returns g c).After-remove c.remove.ensures.value c.remove.ensures.items in
    cc (p.is, c.in-Some.is, p.split, (made _ _ p.left).1)
