use Rattle.std.proofs.Common.{rules}
use Rattle.fc_intervals.proofs.InTurn.{given_more, yields_more}
use Rattle.fc_intervals.proofs.map.IntervalMap.try_extend.Goals as goal

pub items-preserved : goal.items-preserved
items-preserved g c =
    let put = c.in_default.ensures in (
      search rules,
      search rules,
      given_more g.K.Ord.cmp g.V.TryClone.same c.items.yielded (c.in-Some.range, c.in-Some.value) c.args.self.now c.items.self c.try_put.new.self
          c.items.invariant.2 (record { put = put.put; written = put.written; empty = λ h. (put.empty h).1 }),
    )

pub returns-in-Err-clause-error : goal.returns-in-Err-clause-error
returns-in-Err-clause-error g c =
    let refused = c.in-Err.ensures in
    let taken = yields_more g.I.IntoIter.Iterator.next_gives c.into_iter-range-iterator.result c.items.range-iterator c.next.new.self c.items.yielded
    (c.in-Some.range, c.in-Some.value) c.items.yielded_by c.in-Some.ensures.steps in
    rw (refused.back, refused.unchanged) (
      c.items.yielded,
      (c.into_iter-range-iterator.result, c.into_iter-range-iterator.ensures.into_iter_gives, c.next.new.self, taken),
      c.items.invariant.2,
      refused.error,
    )
