use Rattle.std.proofs.Common.{sym, ap, ◌∙◌}
use Rattle.fc_map.specs.Stretches.{stretch}
use Rattle.fc_map.proofs.WritingFacts.{write_none}
use Rattle.fc_command.proofs.WriteFacts.{wrote_front, wrote_back}
use Rattle.fc_command.proofs.command.world.write_at.Goals as goal

pub returns-in-Some-clause-written : goal.returns-in-Some-clause-written
returns-in-Some-clause-written g c =
    let h = rw c.in-Some.is at (c.next.follows.holds c.args.value) in
    rw c.in-Front.is (h.1 ∙ sym (wrote_front _ c.args.value c.in-Some.ensures.value.0))

pub returns-in-Some-clause-same_map : goal.returns-in-Some-clause-same_map
returns-in-Some-clause-same_map g c = (rw c.in-Some.is at (c.next.follows.holds c.args.value)).0

pub returns-in-None-clause-written : goal.returns-in-None-clause-written
returns-in-None-clause-written g c =
    let h = rw c.in-None.is at c.next.follows.holds-at-none in
    ap stretch h ∙ sym (write_none _ _ c.in-None.ensures.value)

pub returns-in-Some-next_back-clause-written : goal.returns-in-Some-next_back-clause-written
returns-in-Some-next_back-clause-written g c =
    let h = rw c.in-Some-next_back.is at (c.next_back.follows.holds c.args.value) in
    rw c.in-Back.is (h.1 ∙ sym (wrote_back _ c.args.value c.in-Some-next_back.ensures.value.0))

pub returns-in-Some-next_back-clause-same_map : goal.returns-in-Some-next_back-clause-same_map
returns-in-Some-next_back-clause-same_map g c = (rw c.in-Some-next_back.is at (c.next_back.follows.holds c.args.value)).0

pub returns-in-None-next_back-clause-written : goal.returns-in-None-next_back-clause-written
returns-in-None-next_back-clause-written g c =
    let h = rw c.in-None-next_back.is at c.next_back.follows.holds-at-none in
    ap stretch h ∙ sym (write_none _ _ c.in-None-next_back.ensures.value)
