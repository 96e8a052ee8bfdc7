use Rattle.std.proofs.Common.{ap, inl, inr}
use Rattle.std.specs.Ordering.{is_le}
use Rattle.std.proofs.lemmas.Result.{on_ok_weaker, IfErr-weaker}
use Rattle.fc_map.specs.Entries.{entries}
use Rattle.fc_intervals.proofs.Lengths.{full_before, refused_before}
use Rattle.fc_intervals.proofs.Parted.{front_parted, put_parted}
use Rattle.fc_intervals.proofs.Put.{across_put}
use Rattle.fc_intervals.proofs.steps.put_across.Goals as goal

pub put_parted-requires : goal.put_parted-requires
put_parted-requires g c =
    let parted = c.in-Ok.ensures.parted in
    front_parted g.K.Ord.cmp g.met.K.Ord.total (entries c.args.map.now) c.requires.apart g.V.TryClone.same c.args.stretch.end parted.rest
    parted.is_rest c.args.from (ap is_le c.requires.range) (entries c.part.new.map) parted.is

pub returns-in-Ok-clause-apart : goal.returns-in-Ok-clause-apart
returns-in-Ok-clause-apart g c =
    let parted = c.in-Ok.ensures.parted in
    on_ok_weaker c.put_parted.result (λ e.
    (put_parted g.K.Ord.cmp g.met.K.Ord.total (entries c.args.map.now) c.requires.apart g.V.TryClone.same c.args.stretch.end parted.rest
    parted.is_rest c.args.from c.requires.range c.args.stretch.value (entries c.part.new.map) (entries c.put_parted.new.map) parted.is e).0)
    c.put_parted.ensures.put

pub returns-in-Ok-clause-written : goal.returns-in-Ok-clause-written
returns-in-Ok-clause-written g c =
    let parted = c.in-Ok.ensures.parted in
    on_ok_weaker c.put_parted.result (λ e.
    (put_parted g.K.Ord.cmp g.met.K.Ord.total (entries c.args.map.now) c.requires.apart g.V.TryClone.same c.args.stretch.end parted.rest
    parted.is_rest c.args.from c.requires.range c.args.stretch.value (entries c.part.new.map) (entries c.put_parted.new.map) parted.is e).1)
    c.put_parted.ensures.put

pub returns-in-Ok-clause-error : goal.returns-in-Ok-clause-error
returns-in-Ok-clause-error g c =
    let parted = c.in-Ok.ensures.parted in
    IfErr-weaker c.put_parted.result _ _ (λ e h. inr (refused_before g.K.Ord.cmp g.met.K.Ord.total (entries c.args.map.now) c.requires.apart
    g.V.TryClone.same c.args.stretch.end parted.rest parted.is_rest (entries c.part.new.map) parted.is c.args.from c.requires.range e.1 h))
    c.put_parted.ensures.error

pub returns-in-Ok-clause-full : goal.returns-in-Ok-clause-full
returns-in-Ok-clause-full g c =
    let parted = c.in-Ok.ensures.parted in
    full_before g.K.Ord.cmp g.met.K.Ord.total (entries c.args.map.now) c.requires.apart g.V.TryClone.same c.args.stretch.end parted.rest parted.is_rest
    (entries c.part.new.map) parted.is c.args.from c.requires.range _ c.put_parted.ensures.full

pub returns-in-Err-clause-error : goal.returns-in-Err-clause-error
returns-in-Err-clause-error g c = inl c.in-Err.ensures.error

pub returns-in-Ok-clause-put : goal.returns-in-Ok-clause-put
returns-in-Ok-clause-put g c =
    let parted = c.in-Ok.ensures.parted in
    on_ok_weaker c.put_parted.result (λ e.
    across_put g.K.Ord.cmp g.met.K.Ord.total (entries c.args.map.now) c.requires.apart g.V.TryClone.same c.args.from c.args.stretch.end c.requires.range
    parted.rest parted.is_rest c.args.stretch.value (entries c.part.new.map) (entries c.put_parted.new.map) parted.is e)
    c.put_parted.ensures.put
