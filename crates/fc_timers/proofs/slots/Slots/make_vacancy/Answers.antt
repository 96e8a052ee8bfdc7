use Rattle.fc_timers.proofs.Vacancies.{vacancy_added}
use Rattle.fc_timers.proofs.slots.Slots.make_vacancy.Goals as goal

pub returns-else-len-clause-vacancy : goal.returns-else-len-clause-vacancy
returns-else-len-clause-vacancy g c = vacancy_added c.add_slot.result c.args.self.now c.add_slot.new.self c.add_slot.ensures.slots
