use Rattle.std.proofs.Common.{◌∙◌, None, ap}
use Rattle.std.specs.declared.ops.Bound.TheVariants.{Included, Excluded}
use Rattle.fc_map.specs.Entries.{entries}
use Rattle.fc_map.specs.Ranged.{outside}
use Rattle.fc_intervals.specs.Steps.{IsCut}
use Rattle.fc_intervals.specs.Stretches.{AreApart, IsWritten}
use Rattle.fc_intervals.proofs.Parted.{cut_parted, front_parted}
use Rattle.fc_intervals.proofs.steps.clear.Given as given
use Rattle.fc_intervals.proofs.steps.clear.Goals as goal

pub end_at-requires : goal.end_at-requires
end_at-requires g c =
    let parted = c.in_ok-part.ensures.parted in
    front_parted g.K.Ord.cmp g.met.K.Ord.total (entries c.args.map.now) c.requires.apart g.V.TryClone.same c.args.to parted.rest parted.is_rest
    c.args.from c.requires.range (entries c.part.new.map) parted.is

-- what is left after all steps
left : (g : given.Over) (c : goal.After-remove_range g) → let s = entries c.args.map.now in let t = entries c.remove_range.new.self in
    IsCut g.K.Ord.cmp g.V.TryClone.same c.args.from c.args.to s t × AreApart g.K.Ord.cmp t
    × IsWritten g.K.Ord.cmp g.V.TryClone.same c.args.from c.args.to None s t
left g c =
    let parted = c.in_ok-part.ensures.parted in
    cut_parted g.K.Ord.cmp g.met.K.Ord.total (entries c.args.map.now) c.requires.apart g.V.TryClone.same c.args.to parted.rest parted.is_rest
    c.args.from c.requires.range (entries c.part.new.map) (entries c.remove_range.new.self) parted.is (c.remove_range.ensures.rest
    ∙ ap (outside g.K.Ord.cmp (Included c.args.from) (Excluded c.args.to)) c.end_at.ensures.ended)

pub returns-clause-cut : goal.returns-clause-cut
returns-clause-cut g c = (left g c).0

pub returns-clause-apart : goal.returns-clause-apart
returns-clause-apart g c = (left g c).1

pub returns-clause-written : goal.returns-clause-written
returns-clause-written g c = (left g c).2
