use Rattle.std.proofs.Common.{◌-◌, Some, None, ap, ◌∙◌, arith, length-set, set}
use Rattle.std.proofs.lemmas.List.{set-set}
use Rattle.fc_tree_slots.proofs.Laid.{opened, packed, holds_at, value_at, written}
use Rattle.fc_tree_slots.proofs.slots.Slots.replace.Goals as goal

pub take-old-requires : goal.take-old-requires
take-old-requires g c = let s = c.self.inside in let o = opened s _ c.self.invariant c.self.view_is in
    (_, holds_at c.args.self.now (g.row.N - s.len) s.cells c.args.index o.is c.requires)

pub invariant_of-self : goal.invariant_of-self
invariant_of-self g c =
    let s = c.self.inside in let xs = c.args.self.now in let i = c.args.index in let m = g.row.N - s.len in let w = c.args.item in
    let o = opened s xs c.self.invariant c.self.view_is in
    let same = c.set.ensures.cells ∙ ap (λ l. set l i (Some w)) c.take-old.ensures.cells ∙ set-set s.cells i None (Some w) in
    (packed c.set.new.self (set xs i w) 0 m s.len g.row.N (same ∙ written xs m s.cells i w o.is c.requires) (omega (arith, o.long, length-set xs i w))
    (omega (arith, o.fits))).0

pub returns-clause-value : goal.returns-clause-value
returns-clause-value g c = let s = c.self.inside in let o = opened s _ c.self.invariant c.self.view_is in
    value_at c.args.self.now (g.row.N - s.len) s.cells c.args.index c.take-old.result o.is c.requires c.take-old.ensures.value

pub returns-clause-items : goal.returns-clause-items
returns-clause-items g c =
    let s = c.self.inside in let xs = c.args.self.now in let i = c.args.index in let m = g.row.N - s.len in let w = c.args.item in
    let o = opened s xs c.self.invariant c.self.view_is in
    let same = c.set.ensures.cells ∙ ap (λ l. set l i (Some w)) c.take-old.ensures.cells ∙ set-set s.cells i None (Some w) in
    (packed c.set.new.self (set xs i w) 0 m s.len g.row.N (same ∙ written xs m s.cells i w o.is c.requires) (omega (arith, o.long, length-set xs i w))
    (omega (arith, o.fits))).1
