use Rattle.std.proofs.Common.{◌≡◌, sym, arith}
use Rattle.std.proofs.lemmas.Bool.Decides.{nat_tests}
use Rattle.fc_laws.specs.Words.{entries}
use Rattle.fc_laws.proofs.Laws.{first_after_there, first_after_side, number_tuple_greater, number_tuple_total}
use Rattle.callers_of_map.proofs.Places.{place_cmp}
use Rattle.callers_of_map.proofs.boxes.box_after.Goals as goal

pub returns-then-place-depth-clause-there : goal.returns-then-place-depth-clause-there
returns-then-place-depth-clause-there c = first_after_there place_cmp place_cmp (entries c.args.boxes.now) (c.args.depth, c.args.byte)
    c.in_ok-place.place.now c.in_ok-place.end.now number_tuple_total c.in_ok-place.ensures.ascending (sym c.in_ok-place.ensures.pair)

pub returns-then-place-depth-clause-side : goal.returns-then-place-depth-clause-side
returns-then-place-depth-clause-side c =
    let place = c.in_ok-place.place.now in
    let side = (number_tuple_greater place.0 c.args.depth place.1 c.args.byte).0 (first_after_side place_cmp (entries c.args.boxes.now)
    (c.args.depth, c.args.byte) place c.in_ok-place.end.now (sym c.in_ok-place.ensures.pair)) in
    let same : place.0 ≡ c.args.depth = grind (arith, nat_tests, c.if-place-depth.true) in
    (same, grind (arith, same, side))
