-- The owned walks over a map fit in memory, whatever its allocator.
use Rattle.std.proofs.Common.{◌^◌, ◌<◌, ◌≤◌, arith}
use lib.Dec.{lit<}
use denote.RattleType.{RattleType}
use denote.Param.{layout, copied}
use prog.Memory.{size}
use Rattle.std.specs.declared.alloc.Allocator.{Ghosts}
use Rattle.std.specs.Mem.{type_size}
use Rattle.fc_map_iter.specs.contracts.into_iter.IntoIter as walk
use Rattle.fc_map_iter.specs.contracts.into_keys.IntoKeys as keys
use Rattle.fc_map_iter.specs.contracts.into_values.IntoValues as values
use Rattle.fc_tree_drain.proofs.Sizes.{Shape, whole, part, front_shape, back_shape, bound_holds, below}

abbrev pub walk_shape : Shape
walk_shape = part (part front_shape (part back_shape whole)) whole

pub walk_fits : (K V A : RattleType) (heap : Ghosts A.Denot) → type_size A < 65536 → size (layout (walk.the_row K V (copied 2 A) heap)) < 2 ^ 63
walk_fits K V A heap h =
    let low : type_size A ≤ 65536 = omega arith in
    below (bound_holds walk_shape (layout (walk.the_row K V (copied 2 A) heap)) (search (low, tt) depth 40)) (lit< tt)

pub keys_fit : (K V A : RattleType) (heap : Ghosts A.Denot) → type_size A < 65536 → size (layout (keys.the_row K V (copied 2 A) heap)) < 2 ^ 63
keys_fit K V A heap h =
    let low : type_size A ≤ 65536 = omega arith in
    below (bound_holds (part walk_shape whole) (layout (keys.the_row K V (copied 2 A) heap)) (search (low, tt) depth 40)) (lit< tt)

pub values_fit : (K V A : RattleType) (heap : Ghosts A.Denot) → type_size A < 65536 → size (layout (values.the_row K V (copied 2 A) heap)) < 2 ^ 63
values_fit K V A heap h =
    let low : type_size A ≤ 65536 = omega arith in
    below (bound_holds (part walk_shape whole) (layout (values.the_row K V (copied 2 A) heap)) (search (low, tt) depth 40)) (lit< tt)
