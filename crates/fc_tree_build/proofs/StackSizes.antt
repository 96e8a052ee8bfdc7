-- What builds a tree fits in memory, whatever its allocator, and so does the array of a stack.
use Rattle.std.proofs.Common.{◌+◌, ◌^◌, ◌<◌, ◌≤◌, arith}
use lib.Dec.{lit<, lit≤}
use denote.RattleType.{RattleType}
use denote.Param.{layout, copied}
use mir.Syntax.{Ty, tcons, ty_struct}
use prog.Memory.{size, align, up}
use prog.Align.{end_ge}
use Rattle.std.specs.declared.alloc.Allocator.{Ghosts}
use Rattle.std.specs.Mem.{type_size}
use Rattle.fc_tree_node.specs.contracts.node.Node as node
use Rattle.fc_tree_drain.specs.contracts.stack.Stack as stack
use Rattle.fc_tree_build.specs.contracts.builder.Builder as builder
use Rattle.fc_tree_build.specs.contracts.growing.GrowingBuilder as growing
use Rattle.fc_tree_drain.proofs.Sizes.{Shape, whole, most, part, maybe_shape, node_shape, nodes_shape, bound_holds, below, nodes_fit}

-- The first field of a struct.
abbrev first_field : Ty → Ty
first_field (ty_struct ν (tcons τ τs)) = τ
first_field τ = τ

first_fits : (τ : Ty) → size τ < 2 ^ 63 → size (first_field τ) < 2 ^ 63
first_fits (ty_struct ν (tcons τ τs)) h = let l = end_ge (up (align τ) 0 + size τ) τs in omega arith
first_fits τ h = h

-- A stack holds a vector, that holds cells, and those hold the array.
pub items_fit : (K V A : RattleType) (heap : Ghosts A.Denot) → type_size A < 65536
    → size (first_field (first_field (first_field (layout (stack.the_row (node.the_row K V (copied 2 A) heap)))))) < 2 ^ 63
items_fit K V A heap h =
    let whole = layout (stack.the_row (node.the_row K V (copied 2 A) heap)) in
    first_fits (first_field (first_field whole)) (first_fits (first_field whole) (first_fits whole (nodes_fit K V A heap h)))

-- A vector's fields: each of them is the allocator's handle, or a word.
abbrev vector_shape : Shape
vector_shape = part (most 65536) (part (most 65536) (part (most 65536) (part (most 65536) whole)))

abbrev builder_shape : Shape
builder_shape = part nodes_shape (part (maybe_shape node_shape) (part vector_shape (part vector_shape whole)))

abbrev growing_shape : Shape
growing_shape = part nodes_shape (part (maybe_shape node_shape) (part whole (part (most 65536) whole)))

pub builder_fits : (K V A : RattleType) (heap : Ghosts A.Denot) → type_size A < 65536 → size (layout (builder.the_row K V (copied 2 A) heap)) < 2 ^ 63
builder_fits K V A heap h =
    let low : type_size A ≤ 65536 = omega arith in
    below (bound_holds builder_shape (layout (builder.the_row K V (copied 2 A) heap)) (search (low, tt, lit≤) depth 40)) (lit< tt)

pub growing_builder_fits : (K V A : RattleType) (heap : Ghosts A.Denot) → type_size A < 65536 → size (layout (growing.the_row K V (copied 2 A) heap)) < 2 ^ 63
growing_builder_fits K V A heap h =
    let low : type_size A ≤ 65536 = omega arith in
    below (bound_holds growing_shape (layout (growing.the_row K V (copied 2 A) heap)) (search (low, tt, lit≤) depth 40)) (lit< tt)
