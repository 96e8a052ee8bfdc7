use Rattle.std.proofs.Common.{◌≡◌, suc, ◌+◌, ◌-◌, ◌++◌, length, take, drop, ◌∙◌, arith, length-append, length-take, length-drop, take_all}
use Rattle.std.proofs.lemmas.List.{drop_all}
use Rattle.fc_tree_slots.specs.Cells.{present, row, IsPacked}
use Rattle.fc_tree_slots.proofs.Laid.{opened, packed, holds_at, value_at, left_out}
use Rattle.fc_tree_slots.proofs.slots.Slots.remove.Given as given
use Rattle.fc_tree_slots.proofs.slots.Slots.remove.Goals as goal

pub take-item-requires : goal.take-item-requires
take-item-requires g c = let s = c.self.inside in let o = opened s _ c.self.invariant c.self.view_is in
    (_, holds_at c.args.self.now (g.row.N - s.len) s.cells c.args.index o.is c.requires)

pub shift_down-requires-clause-in_order : goal.shift_down-requires-clause-in_order
shift_down-requires-clause-in_order g c = let s = c.self.inside in let o = opened s _ c.self.invariant c.self.view_is in omega (arith, o.long, c.requires)

pub shift_down-requires-clause-laid : goal.shift_down-requires-clause-laid
shift_down-requires-clause-laid g c =
    let s = c.self.inside in let xs = c.args.self.now in let i = c.args.index in let m = g.row.N - s.len in
    let o = opened s xs c.self.invariant c.self.view_is in let lt = c.requires in (
      take i xs,
      drop (suc i) xs,
      m,
      left_out xs m s.cells c.take-item.new.self i o.is lt c.take-item.ensures.cells,
      omega (arith, length-take i xs),
      omega (arith, o.long, length-drop (suc i) xs),
    )

pub overflow_sub-self : goal.overflow_sub-self
overflow_sub-self g c = let s = c.self.inside in let o = opened s _ c.self.invariant c.self.view_is in omega (arith, o.long, c.requires)

after : (g : given.Over) (c : goal.After-self-1 g) → IsPacked c.shift_down.new.cells (c.self.inside.len - 1) g.row.N
    × (present c.shift_down.new.cells ≡ take c.args.index c.args.self.now ++ drop (suc c.args.index) c.args.self.now)
after g c =
    let s = c.self.inside in let xs = c.args.self.now in let i = c.args.index in let m = g.row.N - s.len in
    let o = opened s xs c.self.invariant c.self.view_is in let lt = c.requires in
    let n = s.len - (i + 1) in let ys = drop (suc i) xs in let zs = take i xs in
    let far : length zs ≡ i + 1 - 1 = omega (arith, length-take i xs) in let all : n ≡ length ys = omega (arith, o.long, length-drop (suc i) xs) in
    let moved = c.shift_down.ensures.items zs ys m (left_out xs m s.cells c.take-item.new.self i o.is lt c.take-item.ensures.cells) far (omega arith) in
    packed c.shift_down.new.cells (zs ++ ys) 1 m (s.len - 1) g.row.N (moved
    ∙ (λ d. row (zs ++ take_all n ys (omega arith) d) 1 (drop_all n ys (omega arith) d) m)) (omega (arith, length-append zs ys, length-take i xs))
    (omega (arith, o.fits, o.long))

pub invariant_of-self : goal.invariant_of-self
invariant_of-self g c = (after g c).0

pub returns-clause-value : goal.returns-clause-value
returns-clause-value g c = let s = c.self.inside in let o = opened s _ c.self.invariant c.self.view_is in
    value_at c.args.self.now (g.row.N - s.len) s.cells c.args.index c.take-item.result o.is c.requires c.take-item.ensures.value

pub returns-clause-items : goal.returns-clause-items
returns-clause-items g c = (after g c).1

pub returns-clause-moves : goal.returns-clause-moves
returns-clause-moves g c = let s = c.self.inside in let o = opened s _ c.self.invariant c.self.view_is in
    omega (arith, o.long, c.requires, c.shift_down.ensures.moves, c.add_moves.ensures.moves)
