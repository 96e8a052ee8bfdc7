use Rattle.std.proofs.Common.{sym, subst, rules}
use denote.Param.{param}
use Rattle.std.specs.List.{AllZip}
use Rattle.fc_base.specs.Ascending.{IsAscending}
use Rattle.fc_tree_copy.specs.Copy.{AreSame}
use Rattle.fc_tree_build.proofs.StackSizes.{growing_builder_fits}
use Rattle.fc_tree_copy.proofs.CloneFacts.{none_cloned, one_cloned, all_cloned}
use Rattle.fc_tree_copy.proofs.clones.try_cloned.Goals as goal

pub new-clones-requires : goal.new-clones-requires
new-clones-requires g c = growing_builder_fits (param 0 g.row.K) (param 1 g.row.V) g.row.A g.A.Allocator g.met.A.Handle.small

pub loop-key-init : goal.loop-key-init
loop-key-init g c = (
  search rules,
  search rules,
  subst (IsAscending g.K.Ord.cmp) (sym c.new-clones.ensures.pairs) tt,
  none_cloned (AreSame g.K.Clone.is_clone g.V.Clone.is_clone) c.args.pairs c.into_iter-key-iterator.result c.new-clones.result.pairs
      c.into_iter-key-iterator.ensures.into_iter_gives c.new-clones.ensures.pairs,
)

pub push_if_after-requires : goal.push_if_after-requires
push_if_after-requires g c = (growing_builder_fits (param 0 g.row.K) (param 1 g.row.V) g.row.A g.A.Allocator g.met.A.Handle.small, c.loop-key.invariant.2)

pub loop-key-preserved : goal.loop-key-preserved
loop-key-preserved g c = (
  search rules,
  search rules,
  c.in_ok-push_if_after.ensures.ascending,
  one_cloned (AreSame g.K.Clone.is_clone g.V.Clone.is_clone) c.args.pairs c.loop-key.key-iterator c.next.new.self c.loop-key.clones.pairs
      c.push_if_after.new.tree.pairs (c.in-Some.key.now, c.in-Some.value.now) (c.in_ok-key.key, c.in_ok-value.value) c.in-Some.ensures.steps
      (c.in_ok-key.ensures.cases, c.in_ok-value.ensures.cases) c.in_ok-push_if_after.ensures.put c.loop-key.invariant.3,
)

pub finish-requires : goal.finish-requires
finish-requires g c = growing_builder_fits (param 0 g.row.K) (param 1 g.row.V) g.row.A g.A.Allocator g.met.A.Handle.small

pub returns-clause-cloned : goal.returns-clause-cloned
returns-clause-cloned g c = subst (AllZip (AreSame g.K.Clone.is_clone g.V.Clone.is_clone) c.args.pairs) (sym c.finish.ensures.pairs)
    (all_cloned (AreSame g.K.Clone.is_clone g.V.Clone.is_clone) c.args.pairs c.loop-key.key-iterator c.loop-key.clones.pairs c.in-None.ensures.steps.0
    c.loop-key.invariant.3)

pub returns-clause-ascending : goal.returns-clause-ascending
returns-clause-ascending g c = subst (IsAscending g.K.Ord.cmp) (sym c.finish.ensures.pairs) c.loop-key.invariant.2
