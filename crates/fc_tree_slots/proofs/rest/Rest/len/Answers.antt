use Rattle.std.proofs.Common.{arith}
use Rattle.fc_tree_slots.proofs.Rests.{rest_of}
use Rattle.fc_tree_slots.proofs.rest.Rest.len.Goals as goal

pub returns : goal.returns
returns g c = let r = rest_of c.self.inside _ c.self.invariant c.self.view_is in omega (arith, r.long)
