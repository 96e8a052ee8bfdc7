use Rattle.std.proofs.Common.{◌≡◌, refl, ap, ◌∙◌, rules, arith}
use Rattle.fc_base.specs.Ranges.{bound_now}
use Rattle.fc_map.specs.Entries.{entries}
use Rattle.fc_map.specs.Stretches.{stretch}
use Rattle.fc_map.specs.Writing.{starting, wrote_all}
use Rattle.fc_map.proofs.WritingFacts.{under_start, under_front, under_back, under_none, under_end, write_end}
use Rattle.callers_of_map.proofs.iter_mut.write_range.Goals as goal
use Rattle.callers_of_map.proofs.iter_mut.write_range.Goals.{then-write+in-Some, then-write+in_default, else-write+in-Some-next_back}
use Rattle.callers_of_map.proofs.iter_mut.write_range.Goals.{else-write+in_default-next_back}

pub loop-write-init : goal.loop-write-init
loop-write-init g c = (refl, under_start _ (stretch c.range_mut-walk.result) c.args.writes.now c.range_mut-walk.ensures.start)

pub loop-write-preserved : goal.loop-write-preserved
loop-write-preserved g c =
    let t = c.loop-write.walk in
    let inv = c.loop-write.invariant in
    let item = c.write-item.result in
    let ws = c.args.writes.now in
    elim c.if-write.branch [
      | then-write+in-Some w ↦
          let n = w.next.follows.lender item.1 in
          let e : c.if-write.walk ≡ n = w.walk-is in
          let h = rw w.in-Some.is at (w.next.follows.holds item.1) in
          rw (e, w.count-is) (
            h.0 ∙ inv.0,
            under_front _ (stretch t) (stretch n) ws c.loop-write.write-index c.loop-write.count item inv.1
                c.loop-write-test.true c.write-item.is w.if-write.true w.in-Some.ensures.value.0 h.1,
          )
      | then-write+in_default w ↦
          let n = w.next.follows.lender-at-none in
          let e : c.if-write.walk ≡ n = w.walk-is in
          let h = rw w.in_default.is at (w.next.follows.holds-at-none) in
          rw (e, w.count-is) (
            ap (λ m. m.map.ghost_name) h ∙ inv.0,
            under_none _ (stretch t) (stretch n) ws c.loop-write.write-index c.loop-write.count item
                inv.1 c.loop-write-test.true c.write-item.is w.in_default.ensures.value (ap stretch h),
          )
      | else-write+in-Some-next_back w ↦
          let n = w.next_back.follows.lender item.1 in
          let e : c.if-write.walk ≡ n = w.walk-is in
          let h = rw w.in-Some-next_back.is at (w.next_back.follows.holds item.1) in
          rw (e, w.count-is) (
            h.0 ∙ inv.0,
            under_back _ (stretch t) (stretch n) ws c.loop-write.write-index c.loop-write.count item inv.1
                c.loop-write-test.true c.write-item.is w.if-write.false w.in-Some-next_back.ensures.value.0 h.1,
          )
      | else-write+in_default-next_back w ↦
          let n = w.next_back.follows.lender-at-none in
          let e : c.if-write.walk ≡ n = w.walk-is in
          let h = rw w.in_default-next_back.is at (w.next_back.follows.holds-at-none) in
          rw (e, w.count-is) (
            ap (λ m. m.map.ghost_name) h ∙ inv.0,
            under_none _ (stretch t) (stretch n) ws c.loop-write.write-index c.loop-write.count item
                inv.1 c.loop-write-test.true c.write-item.is w.in_default-next_back.ensures.value (ap stretch h),
          )
    ]

pub returns-clause-written : goal.returns-clause-written
returns-clause-written g c =
    let s = starting g.K.Ord.cmp (bound_now c.args.bounds.0) (bound_now c.args.bounds.1) (entries c.args.map.now) in
    let inv = c.loop-write.invariant in
    let ws = c.args.writes.now in
    let r = wrote_all s ws in
    let e : entries c.loop-write.walk.map.now ≡ r.list = write_end (stretch c.loop-write.walk) r ws c.loop-write.write-index c.loop-write-test.false
    inv.1.rest in
    let same = inv.0 in
    search rules

pub returns-clause-count : goal.returns-clause-count
returns-clause-count g c =
    let end = c.loop-write.auto.write-index-end in
    under_end _ (stretch c.loop-write.walk) c.args.writes.now c.loop-write.write-index c.loop-write.count c.loop-write.invariant.1
    (omega (arith, end, c.loop-write-test.false))
