use Rattle.std.proofs.Common.{◌≡◌, Some, sym, subst, ◌∙◌}
use Rattle.std.proofs.lemmas.Option.{none-some, same_Some}
use Rattle.fc_base.specs.Parts.{at}
use Rattle.fc_map.specs.Entries.{entries}
use Rattle.fc_intervals.specs.Stretches.{AreApart, stretch_at}
use Rattle.fc_intervals.specs.Taken.{IsTaken}
use Rattle.fc_intervals.proofs.Taken.{apart_taken, stands_there, taken_at}
use Rattle.fc_intervals.proofs.map.IntervalMap.remove_at.Given as given
use Rattle.fc_intervals.proofs.map.IntervalMap.remove_at.Goals as goal
use Rattle.fc_intervals.proofs.map.IntervalMap.remove_at.Goals.{After-remove_entry}

-- the stretch that covers the point stands at its start
there : (g : given.Over) (c : After-remove_entry g)
    → stretch_at g.K.Ord.cmp (entries c.self.inside.map) c.args.at ≡ Some (c.in_ok-start.start.now, c.in_ok-start._stretch.now)
there g c = sym c.in_ok-start.ensures.pair

stands : (g : given.Over) (c : After-remove_entry g)
    → at g.K.Ord.cmp (entries c.self.inside.map) c.in_ok-start.start.now ≡ Some (c.in_ok-start.start.now, c.in_ok-start._stretch.now)
stands g c = stands_there g.K.Ord.cmp g.met.K.Ord.total (entries c.self.inside.map) c.args.at _ c.self.invariant (there g c)

pub returns-in_err-start-2-clause-none : goal.returns-in_err-start-2-clause-none
returns-in_err-start-2-clause-none g c =
    absurd (none-some _ (c.in_err-start-2.ensures.pair ∙ stands g (goal.at.returns-in_err-start-2-clause-none g c).After-remove_entry))

pub invariant_of-self-2 : goal.invariant_of-self-2
invariant_of-self-2 g c =
    let p = (goal.at.invariant_of-self-2 g c).After-remove_entry in
    subst (AreApart g.K.Ord.cmp) (sym c.remove_entry.ensures.rest)
    (apart_taken g.K.Ord.cmp g.met.K.Ord.total (entries c.self.inside.map) c.args.at _ c.self.invariant (there g p))

pub returns-clause-taken : goal.returns-clause-taken
returns-clause-taken g c =
    let p = (goal.at.returns-clause-taken g c).After-remove_entry in
    let s = entries c.self.inside.map in
    let same = same_Some _ _ (sym (stands g p) ∙ sym c.in_ok-start-2.ensures.pair) in
    let taken = taken_at g.K.Ord.cmp g.met.K.Ord.total s c.args.at _ c.self.invariant (there g p) in
    rw (← c.self.view_is)
    (subst (λ e. IsTaken g.K.Ord.cmp c.args.at e s (entries c.remove_entry.new.self)) same
    (subst (λ l. IsTaken g.K.Ord.cmp c.args.at (c.in_ok-start.start.now, c.in_ok-start._stretch.now) s l) (sym c.remove_entry.ensures.rest) taken))
