use Rattle.std.proofs.Common.{ap, ◌∙◌}
use denote.Param.{param}
use Rattle.fc_tree_build.proofs.StackSizes.{growing_builder_fits, items_fit}
use Rattle.fc_map.specs.Entries.{entries}
use Rattle.fc_map.proofs.ExtendFacts.{all_in_map, all_in_tree}
use Rattle.fc_map.proofs.BulkInsertSizes.{list_fits}
use Rattle.fc_map.proofs.map.bulk_insert.BulkInsert.finish.Goals as goal

pub from_grown-requires : goal.from_grown-requires
from_grown-requires g c = (growing_builder_fits (param 0 g.row.K) (param 1 g.row.V) g.row.A g.A.Allocator g.met.A.Handle.small, c.self.invariant.0)

pub drop-map-inside-requires : goal.drop-map-inside-requires
drop-map-inside-requires g c = list_fits (param 0 g.row.K) (param 1 g.row.V) g.row.A g.A.Allocator g.met.A.Handle.small

pub drop-map-inside-requires-then-is_empty : goal.drop-map-inside-requires-then-is_empty
drop-map-inside-requires-then-is_empty g c = list_fits (param 0 g.row.K) (param 1 g.row.V) g.row.A g.A.Allocator g.met.A.Handle.small

pub returns-then-is_empty-clause-pairs : goal.returns-then-is_empty-clause-pairs
returns-then-is_empty-clause-pairs g c =
    c.from_grown.ensures.pairs
    ∙ all_in_tree c.self.inside.tree.pairs (entries c.self.inside.map) c.args.self.pairs (ap (λ e. e.pairs) c.self.view_is)
    (c.is_empty.ensures.0 c.if-is_empty.true)

pub array_drop-tree-inside-requires : goal.array_drop-tree-inside-requires
array_drop-tree-inside-requires g c = items_fit (param 0 g.row.K) (param 1 g.row.V) g.row.A g.A.Allocator g.met.A.Handle.small

pub drop-tree-inside-requires : goal.drop-tree-inside-requires
drop-tree-inside-requires g c = list_fits (param 0 g.row.K) (param 1 g.row.V) g.row.A g.A.Allocator g.met.A.Handle.small

pub returns-clause-pairs : goal.returns-clause-pairs
returns-clause-pairs g c =
    (all_in_map g.K.Ord.cmp c.self.inside.tree.pairs (entries c.self.inside.map) c.args.self.pairs c.is_empty.result c.self.invariant
    (ap (λ e. e.pairs) c.self.view_is) c.if-is_empty.false c.is_empty.ensures).1
