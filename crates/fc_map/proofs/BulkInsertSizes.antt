-- A map that is extended fits in memory, whatever its allocator.
use Rattle.std.proofs.Common.{◌^◌, ◌<◌, ◌≤◌, arith}
use lib.Dec.{lit<}
use denote.RattleType.{RattleType}
use denote.Param.{layout, copied}
use mir.Syntax.{Ty, tcons, ty_struct}
use prog.Memory.{size}
use Rattle.std.specs.declared.alloc.Allocator.{Ghosts}
use Rattle.std.specs.declared.cmp.Ord as ord
use Rattle.std.specs.declared.cmp.PartialEq as eq
use Rattle.std.specs.declared.cmp.PartialOrd as partial
use Rattle.std.specs.Mem.{type_size}
use Rattle.fc_tree_node.specs.contracts.node.Node as node
use Rattle.fc_tree_drain.proofs.Sizes.{Shape, whole, most, part, list_shape, maybe_shape, node_shape, nodes_shape, bound_holds, below}
use Rattle.fc_map.specs.contracts.map.bulk_insert.BulkInsert as bulk_insert

-- The first field of a struct.
abbrev first_field : Ty → Ty
first_field (ty_struct ν (tcons τ τs)) = τ
first_field τ = τ

-- A node's pairs stand in a list, as its children do.
pub list_fits : (K V A : RattleType) (heap : Ghosts A.Denot) → type_size A < 65536 → size (first_field (layout (node.the_row K V (copied 2 A) heap))) < 2 ^ 63
list_fits K V A heap h =
    let low : type_size A ≤ 65536 = omega arith in
    below (bound_holds list_shape (first_field (layout (node.the_row K V (copied 2 A) heap))) (search (low, tt) depth 40)) (lit< tt)

abbrev growing_shape : Shape
growing_shape = part nodes_shape (part (maybe_shape node_shape) (part whole (part (most 65536) whole)))

abbrev map_shape : Shape
map_shape = part (maybe_shape node_shape) (part whole (part (most 65536) whole))

abbrev bulk_insert_shape : Shape
bulk_insert_shape = part growing_shape (part map_shape whole)

module _ (K V A : RattleType) (g : ord.Ghosts K.Denot) (g' : eq.Ghosts K.Denot) (g'' : partial.Ghosts K.Denot) (heap : Ghosts A.Denot) where
  pub bulk_insert_fits : type_size A < 65536 → size (layout (bulk_insert.the_row K V (copied 2 A) g g' g'' heap)) < 2 ^ 63
  bulk_insert_fits h =
      let low : type_size A ≤ 65536 = omega arith in
      below (bound_holds bulk_insert_shape (layout (bulk_insert.the_row K V (copied 2 A) g g' g'' heap)) (search (low, tt) depth 40)) (lit< tt)
