use Rattle.std.proofs.Common.{◌≡◌, ◌+◌, ◌-◌, [], ◌∷◌, ◌++◌, Some, ap, ◌∙◌, sym, arith, set}
use Rattle.fc_tree_slots.specs.Cells.{present, IsPacked}
use Rattle.fc_tree_slots.proofs.Laid.{opened, laid_up, hole_free, put_last}
use Rattle.fc_tree_slots.proofs.slots.Slots.push.Given as given
use Rattle.fc_tree_slots.proofs.slots.Slots.push.Goals as goal

pub set-requires : goal.set-requires
set-requires g c =
    let s = c.self.inside in let xs = c.args.self.now in let o = opened s xs c.self.invariant c.self.view_is in
    hole_free xs [] (g.row.N - (s.len + 1)) s.cells s.len
    (laid_up s xs c.self.invariant c.self.view_is c.requires).0 (sym o.long)

pub overflow_add-self : goal.overflow_add-self
overflow_add-self g c = let s = c.self.inside in
    let o = opened s _ c.self.invariant c.self.view_is in record { fits = omega (arith, o.long, c.requires, g.N.fits) }

after : (g : given.Over) (c : goal.After-self-1 g) →
    IsPacked c.set.new.self (c.self.inside.len + 1) g.row.N × (present c.set.new.self ≡ c.args.self.now ++ c.args.item ∷ [])
after g c =
    let s = c.self.inside in let xs = c.args.self.now in let o = opened s xs c.self.invariant c.self.view_is in
    put_last xs (g.row.N - (s.len + 1)) (s.len + 1) g.row.N s.cells c.set.new.self c.args.item
    (laid_up s xs c.self.invariant c.self.view_is c.requires).0
    (c.set.ensures.cells ∙ ap (λ i. set s.cells i (Some c.args.item)) (sym o.long)) (omega (arith, o.long)) (omega (arith, o.long, c.requires))

pub invariant_of-self : goal.invariant_of-self
invariant_of-self g c = (after g c).0

pub returns-clause-items : goal.returns-clause-items
returns-clause-items g c = (after g c).1
