use Rattle.std.proofs.Common.{◌≡◌, ℕ, Some, ap, subst}
use Rattle.fc_laws.specs.Words.{entries, value_at}
use Rattle.fc_laws.proofs.Laws.{value_before_cut, number_tuple_equal, number_tuple_total}
use Rattle.callers_of_map.proofs.Places.{place_cmp}
use Rattle.callers_of_map.proofs.boxes.close_box.Goals as goal

pub returns-clause-left : goal.returns-clause-left
returns-clause-left c other end there =
    let place = c.args.place in
    let cut_there = subst (λ s. value_at place_cmp s other ≡ Some end) c.remove.ensures.rest there in
    let before = value_before_cut place_cmp (entries c.args.boxes.now) place other end number_tuple_total cut_there in (
      λ same. before.0 ((number_tuple_equal other.0 place.0 other.1 place.1).1 (ap (λ (p : ℕ × ℕ). p.0) same, ap (λ (p : ℕ × ℕ). p.1) same)),
      before.1,
    )
