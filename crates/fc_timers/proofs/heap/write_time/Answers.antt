use Rattle.std.proofs.Common.{◌≡◌, set, get_or, Some, None, refl, sym, ap, ◌∙◌}
use Rattle.std.proofs.lemmas.List.{map-set, get_or-map}
use Rattle.std.proofs.Math.Seq.{map-set_same}
use Rattle.fc_timers.specs.Slotted.{renewed}
use Rattle.fc_timers.specs.Heap.{helds}
use Rattle.fc_timers.proofs.heap.write_time.Goals as goal

pub returns-in-Some-clause-held : goal.returns-in-Some-clause-held
returns-in-Some-clause-held g c =
    let was = c.args.slots.now in
    let slot = c.args.slot in
    let here : get_or (helds was) slot None ≡ Some c.in-Some.armed =
    get_or-map (λ s. s.held) was slot c.index-slots-slot.result None c.requires ∙ c.in-Some.is in
    map-set (λ s. s.held) was slot _ ∙ ap (λ h. set (helds was) slot (renewed c.args.at c.args.turn h)) (sym here)

pub returns-in-Some-clause-link : goal.returns-in-Some-clause-link
returns-in-Some-clause-link g c = map-set_same (λ s. s.link) c.args.slots.now c.args.slot _ c.index-slots-slot.result refl
