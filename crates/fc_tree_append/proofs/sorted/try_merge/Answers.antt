use Rattle.std.proofs.Common.{length, refl, sym, ap, subst, arith}
use denote.Param.{param}
use Rattle.fc_base.specs.Ascending.{IsAscending}
use Rattle.fc_tree_node.specs.Tree.{entries, IsSoundMap}
use Rattle.fc_tree_build.proofs.StackSizes.{builder_fits}
use Rattle.fc_tree_append.proofs.StableLaws.{ascending_extended}
use Rattle.fc_tree_append.proofs.sorted.try_merge.Goals as goal

pub try_new-requires : goal.try_new-requires
try_new-requires g c = builder_fits (param 0 g.row.K) (param 1 g.row.V) g.row.A g.A.Allocator g.met.A.Handle.small

pub merge-tree-requires : goal.merge-tree-requires
merge-tree-requires g c =
    let root = c.take.ensures.value in
    let tree = ap (λ r. length (entries r)) root in (
      builder_fits (param 0 g.row.K) (param 1 g.row.V) g.row.A g.A.Allocator g.met.A.Handle.small,
      (
        subst (λ r. IsSoundMap r) (sym root) c.requires.sound,
        (
          subst (λ r. IsAscending g.K.Ord.cmp (entries r)) (sym root) c.requires.order,
          (c.if-not-sort.ensures.rising refl, (c.in-Ok.ensures.ok.0, omega (arith, c.in-Ok.ensures.ok.1, c.in-Some.ensures))),
        ),
      ),
    )

pub returns-clause-order : goal.returns-clause-order
returns-clause-order g c =
    let order = subst (λ r. IsAscending g.K.Ord.cmp (entries r)) (sym c.take.ensures.value) c.requires.order in
    let all = ascending_extended g.K.Ord.cmp (entries c.take.result) c.sort.new.items.items g.met.K.Ord.total order in
    subst (IsAscending g.K.Ord.cmp) (sym c.merge-tree.ensures.pairs) all
