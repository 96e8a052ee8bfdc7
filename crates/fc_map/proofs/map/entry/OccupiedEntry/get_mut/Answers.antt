use Rattle.std.proofs.Common.{[], ◌∷◌, refl}
use Rattle.fc_map.proofs.EntryFacts.{occupied_written}
use Rattle.fc_map.proofs.map.entry.OccupiedEntry.get_mut.Goals as goal

pub value_mut-requires : goal.value_mut-requires
value_mut-requires g c = c.args.self.now.place []

pub invariant_of-self-lent : goal.invariant_of-self-lent
invariant_of-self-lent g c = λ w.
    let o = c.args.self.now in
    (λ values. o.place (w ∷ values), tt)

pub returns : goal.returns
returns g c =
    let o = c.args.self.now in
    ((refl, λ w. occupied_written o w _), record { writes_back = tt; value = c.value_mut.ensures.value; sound = c.value_mut.ensures.sound })
