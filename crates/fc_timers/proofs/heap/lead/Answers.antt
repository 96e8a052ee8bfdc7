use Rattle.std.proofs.Common.{refl}
use Rattle.std.proofs.lemmas.List.{map-set}
use Rattle.std.proofs.Math.Seq.{map-set_same}
use Rattle.fc_timers.proofs.heap.lead.Goals as goal

pub returns-clause-held : goal.returns-clause-held
returns-clause-held g c = map-set_same (λ s. s.held) c.args.slots.now c.args.slot _ c.index-slots-slot.result refl

pub returns-clause-link : goal.returns-clause-link
returns-clause-link g c = map-set (λ s. s.link) c.args.slots.now c.args.slot _
