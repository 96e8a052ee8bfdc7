use Rattle.std.proofs.Common.{ap, ◌∙◌}
use denote.Param.{param}
use Rattle.fc_base.specs.OneKey.{put}
use Rattle.fc_map.specs.Entries.{entries}
use Rattle.fc_tree_build.proofs.StackSizes.{growing_builder_fits}
use Rattle.fc_map.proofs.ExtendFacts.{put_if_last, back_beside}
use Rattle.fc_map.proofs.map.bulk_insert.BulkInsert.put_if_after.Goals as goal

pub put_if_after-requires : goal.put_if_after-requires
put_if_after-requires g c = growing_builder_fits (param 0 g.row.K) (param 1 g.row.V) g.row.A g.A.Allocator g.met.A.Handle.small

pub invariant_of-self : goal.invariant_of-self
invariant_of-self g c =
    let told = c.put_if_after.ensures in
    (put_if_last g.K.Ord.cmp c.put_if_after.result c.self.inside.tree c.put_if_after.new.self (entries c.self.inside.map) c.args.pair g.met.K.Ord.total
    c.self.invariant told.after told.put told.back).0

pub returns-clause-put : goal.returns-clause-put
returns-clause-put g c none =
    let told = c.put_if_after.ensures in
    (put_if_last g.K.Ord.cmp c.put_if_after.result c.self.inside.tree c.put_if_after.new.self (entries c.self.inside.map) c.args.pair g.met.K.Ord.total
    c.self.invariant told.after told.put told.back).1 none
    ∙ ap (λ s. put g.K.Ord.cmp s.pairs c.args.pair.0 c.args.pair.1) c.self.view_is

pub returns-clause-back : goal.returns-clause-back
returns-clause-back g c =
    back_beside c.put_if_after.result c.self.inside.tree c.put_if_after.new.self (entries c.self.inside.map) c.args.self.now c.args.pair c.self.view_is
    c.put_if_after.ensures.back

pub returns-clause-closed : goal.returns-clause-closed
returns-clause-closed g c = ap (λ e. e.closed) c.self.view_is
