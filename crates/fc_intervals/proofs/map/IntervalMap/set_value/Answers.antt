use Rattle.std.proofs.Common.{◌≡◌, ◌∙◌, sym, ap}
use Rattle.std.specs.Option.{option_map}
use Rattle.std.proofs.lemmas.Option.{none-some}
use Rattle.fc_map.specs.Entries.{entries}
use Rattle.fc_intervals.specs.declared.stretch.Stretch.{Stretch}
use Rattle.fc_intervals.proofs.Taken.{stands_there}
use Rattle.fc_intervals.proofs.ValueSet.{set_there}
use Rattle.fc_intervals.proofs.map.IntervalMap.set_value.Goals as goal

pub returns-in_default-get_mut-clause-none : goal.returns-in_default-get_mut-clause-none
returns-in_default-get_mut-clause-none g c =
    absurd (none-some _ (c.in_default-get_mut.ensures.value ∙ ap (option_map (λ e. e.1))
    (stands_there g.K.Ord.cmp g.met.K.Ord.total (entries c.self.inside.map) c.args.at _ c.self.invariant (sym c.in-Some.ensures.pair))))

pub invariant_of-self-2 : goal.invariant_of-self-2
invariant_of-self-2 g c =
    let new : Stretch g.row.K.Denot g.row.V.Denot = record { end = c.in-Some-get_mut.stretch.now.end; value = c.replace.new.dest } in
    (set_there g.K.Ord.cmp g.met.K.Ord.total (entries c.self.inside.map) _ c.args.at (c.in-Some.start.now, c.in-Some._stretch.now)
    c.in-Some-get_mut.stretch.now _ _ _ c.self.invariant (sym c.in-Some.ensures.pair) (sym c.in-Some-get_mut.ensures.value)
    c.replace.ensures.value c.replace.ensures.after (c.in-Some-get_mut.ensures.put c.in-Some.start.now new)).0

pub returns-clause-set : goal.returns-clause-set
returns-clause-set g c =
    let new : Stretch g.row.K.Denot g.row.V.Denot = record { end = c.in-Some-get_mut.stretch.now.end; value = c.replace.new.dest } in
    rw (← c.self.view_is)
    ((set_there g.K.Ord.cmp g.met.K.Ord.total (entries c.self.inside.map) _ c.args.at (c.in-Some.start.now, c.in-Some._stretch.now)
    c.in-Some-get_mut.stretch.now _ _ _ c.self.invariant (sym c.in-Some.ensures.pair) (sym c.in-Some-get_mut.ensures.value)
    c.replace.ensures.value c.replace.ensures.after (c.in-Some-get_mut.ensures.put c.in-Some.start.now new)).1)
