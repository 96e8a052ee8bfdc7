use Rattle.std.proofs.Common.{◌^◌, ◌<◌, inr, subst}
use Rattle.fc_map.specs.Entries.{entries}
use Rattle.fc_intervals.specs.Steps.{IsRest}
use Rattle.fc_intervals.proofs.Lengths.{kept_fits, rest_more}
use Rattle.fc_intervals.proofs.Parted.{is_parted, not_parted}
use Rattle.fc_intervals.proofs.steps.part.Goals as goal

pub returns-in_default-clause-parted : goal.returns-in_default-clause-parted
returns-in_default-clause-parted g c =
    let s = entries c.args.map.now in
    not_parted g.K.Ord.cmp g.met.K.Ord.total s c.requires.apart g.V.TryClone.same c.args.at
    (subst (IsRest g.K.Ord.cmp g.V.TryClone.same s c.args.at) c.in_default.is c.in_ok-rest.ensures.rest)

pub returns-in_default-clause-full : goal.returns-in_default-clause-full
returns-in_default-clause-full g c = λ more.
    let s = entries c.args.map.now in
    let rest = subst (IsRest g.K.Ord.cmp g.V.TryClone.same s c.args.at) c.in_default.is c.in_ok-rest.ensures.rest in
    absurd (kept_fits g.K.Ord.cmp s c.args.at rest (subst (λ n. n < 2 ^ 64) c.len-len.ensures.value c.len-len.type_inv) more)

pub returns-in-Err-clause-error : goal.returns-in-Err-clause-error
returns-in-Err-clause-error g c =
    let rest = subst (IsRest g.K.Ord.cmp g.V.TryClone.same (entries c.args.map.now) c.args.at) c.in-Some.is c.in_ok-rest.ensures.rest in
    (rest.0, rest.1, rest.2, inr c.in-Err.ensures.error.2)

pub returns-clause-parted : goal.returns-clause-parted
returns-clause-parted g c =
    let s = entries c.args.map.now in
    is_parted g.K.Ord.cmp g.met.K.Ord.total s c.requires.apart g.V.TryClone.same c.args.at c.in-Some.rest
    (subst (IsRest g.K.Ord.cmp g.V.TryClone.same s c.args.at) c.in-Some.is c.in_ok-rest.ensures.rest) (entries c.put_in.new.map) c.in_default-put_in.ensures.put

pub returns-clause-full : goal.returns-clause-full
returns-clause-full g c =
    let s = entries c.args.map.now in
    rest_more g.K.Ord.cmp g.met.K.Ord.total s c.requires.apart g.V.TryClone.same c.args.at _ c.in-Some.rest
    (subst (IsRest g.K.Ord.cmp g.V.TryClone.same s c.args.at) c.in-Some.is c.in_ok-rest.ensures.rest) c.in_default-put_in.ensures.full
