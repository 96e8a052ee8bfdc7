use Rattle.std.proofs.Common.{sym, arith}
use Rattle.fc_tree_slots.proofs.Laid.{opened}
use Rattle.fc_tree_slots.proofs.slots.Slots.len.Goals as goal

pub returns-clause-value : goal.returns-clause-value
returns-clause-value g c = let s = c.self.inside in sym (opened s _ c.self.invariant c.self.view_is).long

pub returns-clause-fits : goal.returns-clause-fits
returns-clause-fits g c = let s = c.self.inside in let o = opened s _ c.self.invariant c.self.view_is in omega (arith, o.long, o.fits)
