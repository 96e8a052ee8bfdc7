use Rattle.std.proofs.Common.{sym, ap, ◌∙◌, arith}
use Rattle.std.specs.Option.{option_copied}
use Rattle.fc_timers.proofs.Standing.{number_found, number_missed}
use Rattle.fc_timers.proofs.slots.Slots.get.Goals as goal

pub returns-then-armed-timer : goal.returns-then-armed-timer
returns-then-armed-timer g c = number_found c.args.timer.number _ c.in-Some.armed.now (sym (ap option_copied c.in-Some.is) ∙ c.standing.ensures) (omega arith)

pub returns-else-armed-timer : goal.returns-else-armed-timer
returns-else-armed-timer g c = number_missed c.args.timer.number _ c.in-Some.armed.now (sym (ap option_copied c.in-Some.is) ∙ c.standing.ensures) (omega arith)
