use denote.RattleType.{RattleType}
use denote.Struct.Struct.{exits_of}
use denote.Struct.Owning.{shape, fields, to}
use denote.Param.Send.{IsSend, Frees, AllSend, owning_send, struct_send, sendable}
use Rattle.std_alloc.proofs.SendSync.{quiet}
use Rattle.core.specs.declared.alloc.Allocator.{Ghosts}
use Rattle.fc_tree_slots.specs.contracts.raw.Row as P
use Rattle.fc_tree_slots.proofs.Crossing.{row_crosses}

pub send : (R Z : RattleType) (g : Ghosts Z.Denot) → IsSend R → IsSend Z → Frees g g.dealloc_token → IsSend (P.the_row R Z g)
send R Z g sent sent-alloc f =
    let O = P.the_type R Z g in let all : AllSend (fields O) = (search sendable, tt) in
    owning_send O all (λ p. row_crosses R (g.dealloc_token p.alloc) (λ τ q. f.frees p.alloc τ q) sent p.start p.held)
    (λ k. quiet (to O) (exits_of k (fields O)) ((struct_send (shape O) all).leaving k))
