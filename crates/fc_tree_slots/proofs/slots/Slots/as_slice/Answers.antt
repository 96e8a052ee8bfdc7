use Rattle.std.proofs.Common.{sym, ◌∙◌}
use Rattle.fc_tree_slots.proofs.Laid.{opened, all_items, same_items}
use Rattle.fc_tree_slots.proofs.slots.Slots.as_slice.Goals as goal

pub as_slice-requires : goal.as_slice-requires
as_slice-requires g c =
    let s = c.self.inside in let xs = c.args.self.now in
    let o = opened s xs c.self.invariant c.self.view_is in (xs, all_items xs _ s.cells s.len o.is (sym o.long), sym o.long)

pub returns : goal.returns
returns g c =
    let s = c.self.inside in let xs = c.args.self.now in let o = opened s xs c.self.invariant c.self.view_is in
    same_items _ xs (sym c.as_slice.ensures ∙ all_items xs _ s.cells s.len o.is (sym o.long))
