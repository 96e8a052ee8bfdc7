use Rattle.std.proofs.Common.{◌≡◌, ◌+◌, ◌-◌, ◌∷◌, ◌++◌, take, drop, arith, length-take}
use Rattle.fc_tree_slots.specs.Cells.{present, IsPacked}
use Rattle.fc_tree_slots.proofs.Laid.{opened, laid_up, hole_free, put_in}
use Rattle.fc_tree_slots.proofs.slots.Slots.insert.Given as given
use Rattle.fc_tree_slots.proofs.slots.Slots.insert.Goals as goal

pub overflow_add-end : goal.overflow_add-end
overflow_add-end g c = let s = c.self.inside in let o = opened s _ c.self.invariant c.self.view_is in
    record { fits = omega (arith, o.long, c.requires.room, g.N.fits) }

pub shift_up-requires-clause-in_order : goal.shift_up-requires-clause-in_order
shift_up-requires-clause-in_order g c =
    let s = c.self.inside in
    let o = opened s _ c.self.invariant c.self.view_is in omega (arith, o.long, c.requires.in_bounds)

pub shift_up-requires-clause-laid : goal.shift_up-requires-clause-laid
shift_up-requires-clause-laid g c =
    let s = c.self.inside in let xs = c.args.self.now in let up = laid_up s xs c.self.invariant c.self.view_is c.requires.room in
    (xs, g.row.N - (s.len + 1), up.0, up.1)

pub set-requires : goal.set-requires
set-requires g c =
    let s = c.self.inside in let xs = c.args.self.now in let i = c.args.index in let m = g.row.N - (s.len + 1) in
    let is = c.shift_up.ensures.items xs m (laid_up s xs c.self.invariant c.self.view_is c.requires.room).0
    (laid_up s xs c.self.invariant c.self.view_is c.requires.room).1 in
    hole_free (take i xs) (drop i xs) m c.shift_up.new.cells i is (omega (arith, length-take i xs, c.requires.in_bounds))

after : (g : given.Over) (c : goal.After-self-1 g) → IsPacked c.set.new.self (c.self.inside.len + 1) g.row.N
    × (present c.set.new.self ≡ take c.args.index c.args.self.now ++ c.args.item ∷ drop c.args.index c.args.self.now)
after g c =
    let s = c.self.inside in let xs = c.args.self.now in let i = c.args.index in let m = g.row.N - (s.len + 1) in
    let up = laid_up s xs c.self.invariant c.self.view_is c.requires.room in
    put_in xs m i (s.len + 1) g.row.N c.shift_up.new.cells c.set.new.self c.args.item (c.shift_up.ensures.items xs m up.0 up.1) c.requires.in_bounds
    c.set.ensures.cells (omega (arith, up.1)) (omega (arith, c.requires.room, up.1))

pub invariant_of-self : goal.invariant_of-self
invariant_of-self g c = (after g c).0

pub returns-clause-items : goal.returns-clause-items
returns-clause-items g c = (after g c).1

pub returns-clause-moves : goal.returns-clause-moves
returns-clause-moves g c =
    let s = c.self.inside in let o = opened s _ c.self.invariant c.self.view_is in
    omega (arith, o.long, c.requires.in_bounds, c.shift_up.ensures.moves, c.set.ensures.moves)
