use Rattle.std.proofs.Common.{◌∙◌, ◌++◌, None, ap, inl, inr}
use Rattle.std.specs.Prelude.{map}
use Rattle.std.specs.Ordering.{is_le}
use Rattle.std.specs.declared.ops.Bound.TheVariants.{Included, Excluded}
use Rattle.std.proofs.lemmas.Result.{err_from_is_err_and}
use Rattle.fc_map.specs.Entries.{entries}
use Rattle.fc_map.specs.Ranged.{outside}
use Rattle.fc_intervals.specs.Handed.{GivenStretch}
use Rattle.fc_intervals.specs.Steps.{ended, IsCut, starting}
use Rattle.fc_intervals.specs.Stretches.{AreApart, IsWritten}
use Rattle.fc_intervals.proofs.Handed.{cut_out, handed_both, inside}
use Rattle.fc_intervals.proofs.Parted.{cut_parted, front_parted}
use Rattle.fc_intervals.proofs.steps.handed.clear_with.Given as given
use Rattle.fc_intervals.proofs.steps.handed.clear_with.Goals as goal
use Rattle.fc_intervals.proofs.steps.handed.clear_with.Goals.{After-hand_starting}

pub returns-in_err-first-clause-error : goal.returns-in_err-first-clause-error
returns-in_err-first-clause-error g c =
    let p = err_from_is_err_and c.from_residual.result c.from_residual.ensures.1 in
    rw (p.1, p.2) (inl c.in_err-first.ensures.copy)

pub returns-in_err-part-clause-error : goal.returns-in_err-part-clause-error
returns-in_err-part-clause-error g c =
    let p = err_from_is_err_and c.from_residual-in_err-part.result c.from_residual-in_err-part.ensures.1 in
    rw (p.1, p.2) (inr c.in_err-part.ensures.error)

pub end_at-requires : goal.end_at-requires
end_at-requires g c =
    let parted = c.in_ok-part.ensures.parted in
    front_parted g.K.Ord.cmp g.met.K.Ord.total (entries c.args.map.now) c.requires.apart g.V.TryClone.same c.args.to parted.rest parted.is_rest
    c.args.from (ap is_le c.requires.range) (entries c.part.new.map) parted.is

-- what is left after all steps
left : (g : given.Over) (c : After-hand_starting g) → let s = entries c.args.map.now in let t = entries c.hand_starting.new.map in
    IsCut g.K.Ord.cmp g.V.TryClone.same c.args.from c.args.to s t × AreApart g.K.Ord.cmp t
    × IsWritten g.K.Ord.cmp g.V.TryClone.same c.args.from c.args.to None s t
left g c =
    let parted = c.in_ok-part.ensures.parted in
    cut_parted g.K.Ord.cmp g.met.K.Ord.total (entries c.args.map.now) c.requires.apart g.V.TryClone.same c.args.to parted.rest parted.is_rest
    c.args.from (ap is_le c.requires.range) (entries c.part.new.map) (entries c.hand_starting.new.map) parted.is (c.hand_starting.ensures.rest
    ∙ ap (outside g.K.Ord.cmp (Included c.args.from) (Excluded c.args.to)) c.end_at.ensures.ended)

pub returns-clause-cut : goal.returns-clause-cut
returns-clause-cut g c = (left g (goal.at.returns-clause-cut g c).After-hand_starting).0

pub returns-clause-apart : goal.returns-clause-apart
returns-clause-apart g c = (left g (goal.at.returns-clause-apart g c).After-hand_starting).1

pub returns-clause-written : goal.returns-clause-written
returns-clause-written g c = (left g (goal.at.returns-clause-written g c).After-hand_starting).2

pub returns-clause-handed : goal.returns-clause-handed
returns-clause-handed g c =
    let parted = c.in_ok-part.ensures.parted in
    let cmp = g.K.Ord.cmp in (
      map (ended cmp c.args.to) (starting c.args.from c.in_ok-first.first)
          ++ map (ended cmp c.args.to) (inside cmp c.args.from c.args.to (entries c.end_at.new.map)),
      c.hand_starting.new.f,
      cut_out cmp g.met.K.Ord.total c.args.from c.args.to (entries c.args.map.now) c.requires.apart c.requires.range g.V.TryClone.same
          c.in_ok-first.first parted.rest c.in_ok-first.ensures.rest (entries c.part.new.map) (entries c.end_at.new.map) parted.is c.end_at.ensures.ended,
      handed_both cmp c.args.from c.args.to (GivenStretch g.F.FnMut) _ _ _ _ _ c.hand_rest.ensures.handed c.hand_starting.ensures.handed,
    )
