use Rattle.std.proofs.Common.{◌≡◌, refl, ap, sym, ◌∙◌, rules}
use Rattle.fc_map.specs.Entries.{entries}
use Rattle.fc_map.specs.Stretches.{iter_stretch}
use Rattle.fc_map.specs.Writing.{whole, wrote_all}
use Rattle.fc_map.proofs.WritingFacts.{write_more, write_front, write_back, write_none, write_end}
use Rattle.callers_of_map.proofs.iter_mut.write_all.Goals as goal
use Rattle.callers_of_map.proofs.iter_mut.write_all.Goals.{then-write+in-Some, then-write+in_default, else-write+in-Some-next_back}
use Rattle.callers_of_map.proofs.iter_mut.write_all.Goals.{else-write+in_default-next_back}

pub loop-write-init : goal.loop-write-init
loop-write-init g c = (refl, ap (λ t. wrote_all t c.args.writes.now) c.iter_mut-walk.ensures.start)

pub loop-write-preserved : goal.loop-write-preserved
loop-write-preserved g c =
    let t = c.loop-write.walk in
    let inv = c.loop-write.invariant in
    let item = c.write-item.result in
    let ws = c.args.writes.now in
    let r = wrote_all (whole (entries c.args.map.now)) ws in
    elim c.if-write.branch [
      | then-write+in-Some w ↦
          let n = w.next.follows.lender item.1 in
          let e : c.if-write.walk ≡ n = w.walk-is in
          let h = rw w.in-Some.is at (w.next.follows.holds item.1) in
          let one = write_front (iter_stretch t) item w.if-write.true w.in-Some.ensures.value.0 ∙ sym h.1 in
          rw e (h.0 ∙ inv.0, write_more (iter_stretch t) (iter_stretch n) ws c.loop-write.write-index item r c.loop-write-test.true c.write-item.is one inv.1)
      | then-write+in_default w ↦
          let n = w.next.follows.lender-at-none in
          let e : c.if-write.walk ≡ n = w.walk-is in
          let h = rw w.in_default.is at (w.next.follows.holds-at-none) in
          let one = write_none (iter_stretch t) item w.in_default.ensures.value ∙ sym (ap iter_stretch h) in
          rw e (
            ap (λ m. m.map.ghost_name) h ∙ inv.0,
            write_more (iter_stretch t) (iter_stretch n) ws c.loop-write.write-index item r c.loop-write-test.true
                c.write-item.is one inv.1,
          )
      | else-write+in-Some-next_back w ↦
          let n = w.next_back.follows.lender item.1 in
          let e : c.if-write.walk ≡ n = w.walk-is in
          let h = rw w.in-Some-next_back.is at (w.next_back.follows.holds item.1) in
          let one = write_back (iter_stretch t) item w.if-write.false w.in-Some-next_back.ensures.value.0 ∙ sym h.1 in
          rw e (h.0 ∙ inv.0, write_more (iter_stretch t) (iter_stretch n) ws c.loop-write.write-index item r c.loop-write-test.true c.write-item.is one inv.1)
      | else-write+in_default-next_back w ↦
          let n = w.next_back.follows.lender-at-none in
          let e : c.if-write.walk ≡ n = w.walk-is in
          let h = rw w.in_default-next_back.is at (w.next_back.follows.holds-at-none) in
          let one = write_none (iter_stretch t) item w.in_default-next_back.ensures.value ∙ sym (ap iter_stretch h) in
          rw e (
            ap (λ m. m.map.ghost_name) h ∙ inv.0,
            write_more (iter_stretch t) (iter_stretch n) ws c.loop-write.write-index item r c.loop-write-test.true
                c.write-item.is one inv.1,
          )
    ]

pub returns : goal.returns
returns g c =
    let t = iter_stretch c.loop-write.walk in
    let inv = c.loop-write.invariant in
    let ws = c.args.writes.now in
    let r = wrote_all (whole (entries c.args.map.now)) ws in
    let e : entries c.loop-write.walk.map.now ≡ r.list = write_end t r ws c.loop-write.write-index c.loop-write-test.false inv.1 in
    let same = inv.0 in
    search rules
