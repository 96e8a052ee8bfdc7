use Rattle.std.proofs.Common.{rules, ◌≡◌, ◌+◌, min}
use Rattle.fc_map.specs.Entries.{entries}
use Rattle.fc_map.proofs.VisitLaws.{visited_whole}
use Rattle.callers_of_map.proofs.iter_mut.raise_each.Goals as goal

pub returns : goal.returns
returns g c =
    let e = visited_whole _ (λ e. min (e.1 + 1) 18446744073709551615) (λ f e f' w k. search rules) _ (entries c.args.counts.now) _ _ c.iter_mut.ensures.start
    c.for_each.ensures.visited in
    let m = c.iter_mut.ensures.same_map in
    search (rules, e, m)
