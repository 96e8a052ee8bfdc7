use denote.RattleType.{RattleType}
use denote.Struct.Owning.{shape, to}
use denote.Param.Send.{IsSync, struct_sync, sendable}
use Rattle.core.specs.declared.alloc.Allocator.{Ghosts}
use Rattle.fc_tree_slots.specs.contracts.raw.Row as P
use Rattle.fc_tree_slots.proofs.Crossing.{row_shared}

pub sync : (R Z : RattleType) (g : Ghosts Z.Denot) → IsSync R → IsSync (P.the_row R Z g)
sync R Z g shared = let O = P.the_type R Z g in record {
  shared = λ p b o κ. (
    (struct_sync (shape O) (search sendable, tt)).shared (to O p) b o κ,
    row_shared R shared p.start p.held κ,
  );
}
