use Rattle.std.proofs.Common.{None, refl, sym, inr}
use Rattle.std.proofs.lemmas.Result.{on_ok_weaker, IfErr-weaker}
use Rattle.fc_map.specs.Entries.{entries}
use Rattle.fc_intervals.proofs.Lengths.{full_before, refused_before}
use Rattle.fc_intervals.proofs.Put.{free_put}
use Rattle.fc_intervals.proofs.Written.{free_after, halves, put_free}
use Rattle.fc_intervals.proofs.steps.put.Goals as goal

pub returns-then-is_free-clause-apart : goal.returns-then-is_free-clause-apart
returns-then-is_free-clause-apart g c = on_ok_weaker c.put_in.result (λ e.
    (put_free g.K.Ord.cmp g.met.K.Ord.total (entries c.args.map.now) c.requires.apart g.V.TryClone.same c.args.from c.args.stretch.end c.requires.range
    (c.is_free.ensures c.if-is_free.true) c.args.stretch refl (entries c.put_in.new.map) e).0) c.put_in.ensures.put

pub returns-then-is_free-clause-written : goal.returns-then-is_free-clause-written
returns-then-is_free-clause-written g c = on_ok_weaker c.put_in.result (λ e.
    (put_free g.K.Ord.cmp g.met.K.Ord.total (entries c.args.map.now) c.requires.apart g.V.TryClone.same c.args.from c.args.stretch.end c.requires.range
    (c.is_free.ensures c.if-is_free.true) c.args.stretch refl (entries c.put_in.new.map) e).1) c.put_in.ensures.put

pub returns-then-is_free-clause-error : goal.returns-then-is_free-clause-error
returns-then-is_free-clause-error g c =
    let s = entries c.args.map.now in
    let b = c.args.stretch.end in
    let none = free_after g.K.Ord.cmp g.met.K.Ord.total s c.requires.apart g.V.TryClone.same c.args.from b c.requires.range
    (c.is_free.ensures c.if-is_free.true) in
    IfErr-weaker c.put_in.result _ _ (λ e h. inr (refused_before g.K.Ord.cmp g.met.K.Ord.total s c.requires.apart g.V.TryClone.same b None none s
    (sym (halves g.K.Ord.cmp g.met.K.Ord.total s c.requires.apart b)) c.args.from c.requires.range e.1 h)) c.put_in.ensures.error

pub returns-then-is_free-clause-full : goal.returns-then-is_free-clause-full
returns-then-is_free-clause-full g c =
    let s = entries c.args.map.now in
    let b = c.args.stretch.end in
    let none = free_after g.K.Ord.cmp g.met.K.Ord.total s c.requires.apart g.V.TryClone.same c.args.from b c.requires.range
    (c.is_free.ensures c.if-is_free.true) in
    full_before g.K.Ord.cmp g.met.K.Ord.total s c.requires.apart g.V.TryClone.same b None none s
    (sym (halves g.K.Ord.cmp g.met.K.Ord.total s c.requires.apart b)) c.args.from c.requires.range _ c.put_in.ensures.full

pub returns-then-is_free-clause-put : goal.returns-then-is_free-clause-put
returns-then-is_free-clause-put g c = on_ok_weaker c.put_in.result (λ e.
    free_put g.K.Ord.cmp g.met.K.Ord.total (entries c.args.map.now) c.requires.apart g.V.TryClone.same c.args.from c.args.stretch.end c.requires.range
    (c.is_free.ensures c.if-is_free.true) c.args.stretch refl (entries c.put_in.new.map) e) c.put_in.ensures.put
