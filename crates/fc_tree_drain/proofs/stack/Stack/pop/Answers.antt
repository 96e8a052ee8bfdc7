use Rattle.std.proofs.Common.{map, sym, ap, ◌∙◌, Some, arith}
use Rattle.fc_tree_drain.proofs.Cells.{made, IsPopped, pop_cells}
use Rattle.fc_tree_drain.proofs.stack.Stack.pop.Given as given
use Rattle.fc_tree_drain.proofs.stack.Stack.pop.Goals as goal
use Rattle.fc_tree_drain.proofs.stack.Stack.pop.Goals.{In-Some}

popped : (g : given.Over) (c : goal.In-Some g) → IsPopped c.args.self.now c.pop.new.self.items c.in-Some.cell
popped g c = pop_cells c.args.self.now _ c.in-Some.cell (sym (c.self.invariant.0 ∙ ap (map Some) c.self.view_is) ∙ c.in-Some.ensures.items)

pub unreachable-requires-in_default-cell : goal.unreachable-requires-in_default-cell
unreachable-requires-in_default-cell g c = cc ((popped g (goal.at.unreachable-requires-in_default-cell g c).In-Some).is, c.in_default-cell.is)

pub invariant_of-self : goal.invariant_of-self
invariant_of-self g c = ((made _ _ (popped g (goal.at.invariant_of-self g c).In-Some).left).0, omega (arith, c.in-Some.ensures.len))

pub returns : goal.returns
returns g c = let p = popped g (goal.at.returns g c).In-Some in cc (p.is, c.in-Some-cell.is, p.split, (made _ _ p.left).1)
