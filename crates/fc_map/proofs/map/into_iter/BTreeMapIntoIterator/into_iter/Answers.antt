use Rattle.std.proofs.Common.{arith, length, sym, ap, ◌∙◌, subst}
use denote.Param.{param}
use Rattle.fc_base.specs.Ascending.{IsAscending}
use Rattle.arrayvec.proofs.IterLemmas.{rest_runs, rest_runs_back}
use Rattle.fc_map.specs.Entries.{entries}
use Rattle.fc_map_iter.proofs.WalkSizes.{walk_fits}
use Rattle.fc_map.proofs.map.into_iter.BTreeMapIntoIterator.into_iter.Goals as goal

pub over-requires : goal.over-requires
over-requires g c = (
  walk_fits (param 0 g.row.K) (param 1 g.row.V) g.row.A g.A.Allocator g.met.A.Handle.small,
  (c.self.invariant.1, c.len-left.ensures.value ∙ ap (λ m. length (entries m)) (sym c.self.view_is)),
)

pub returns : goal.returns
returns g c =
    let e = c.over.ensures ∙ ap entries c.self.view_is in
    let a = subst (IsAscending g.K.Ord.cmp) (sym c.over.ensures) c.self.invariant.0 in
    let l = ap length e in
    let t = c.len-left.type_inv in
    let v = c.len-left.ensures.value in
    record { into_iter_gives = (e, omega arith, a, rest_runs, rest_runs_back) }
