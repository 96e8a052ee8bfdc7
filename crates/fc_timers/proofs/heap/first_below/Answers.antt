use Rattle.std.proofs.Common.{◌+◌, ◌*◌, length, refl, inl, inr, arith}
use Rattle.std.proofs.lemmas.Option.{IfSome_then}
use Rattle.std.specs.List.{slice_get}
use Rattle.fc_timers.proofs.Heaps.{below_from, first_alone, first_merged, none_from}
use Rattle.fc_timers.proofs.heap.first_below.Goals as goal

pub returns-then-heap-first-clause-first : goal.returns-then-heap-first-clause-first
returns-then-heap-first-clause-first g c =
    IfSome_then c.first_of_few.result c.first_of_few.ensures.first (λ place f. below_from g.met.T.Ord.total c.args.heap.now c.args.place
    (length c.args.heap.now) place f (omega arith) (omega (arith, c.if-heap-first.true)) (inr (omega arith)))

pub returns-then-heap-first-clause-none : goal.returns-then-heap-first-clause-none
returns-then-heap-first-clause-none g c = none_from c.args.heap.now c.args.place c.first_of_few.result c.first_of_few.ensures.none

pub returns-clause-first : goal.returns-clause-first
returns-clause-first g c =
    let due = slice_get c.args.heap.now in
    let total = g.met.T.Ord.total in
    let from = 4 * c.args.place + 1 in
    let a = c.earlier_of-one in
    let b = c.earlier_of-other in
    let r = c.earlier_of in
    let one = first_merged total due from (from + 1) (from + 2) from (from + 1) a.result (first_alone total due from (from + 1) refl)
    (first_alone total due (from + 1) (from + 2) (omega arith)) a.ensures.found a.ensures.before_one a.ensures.before_other in
    let other = first_merged total due (from + 2) (from + 3) (from + 4) (from + 2) (from + 3) b.result
    (first_alone total due (from + 2) (from + 3) (omega arith)) (first_alone total due (from + 3) (from + 4) (omega arith)) b.ensures.found
    b.ensures.before_one b.ensures.before_other in
    let first = first_merged total due from (from + 2) (from + 4) a.result b.result r.result one other r.ensures.found r.ensures.before_one
    r.ensures.before_other in
    below_from total c.args.heap.now c.args.place (from + 4) r.result first (omega (arith, c.if-heap-first.false)) (omega arith) (inl (omega arith))
