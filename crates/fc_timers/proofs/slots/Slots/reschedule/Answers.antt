use Rattle.std.proofs.Common.{◌≡◌, ◌∙◌, Some, sym, ap}
use Rattle.std.specs.Option.{option_copied}
use Rattle.fc_timers.specs.Slotted.{armed}
use Rattle.fc_timers.proofs.Kept.{moved}
use Rattle.fc_timers.proofs.slots.Slots.reschedule.Goals as goal

pub returns-clause-moved : goal.returns-clause-moved
returns-clause-moved g c =
    let stands : armed c.args.self.now c.args.timer ≡ Some c.in-Some.armed.now = sym c.get.ensures ∙ ap option_copied c.in-Some.is in
    (moved c.args.self.now c.renew.new.self c.args.timer _ c.args.at _ stands c.renew.ensures.slots).0
