-- Whoever has a `&` to a row has one to each item. Assumes `Logic`.
use mathlib.Core.List.{[], ◌++◌}
use base.Fml.{Incl-trans}
use contract.BorrowLft.{meet_⊑_left}
use denote.RattleType.{RattleType}
use denote.Struct.Field.{RawPtr-field}
use denote.Struct.Laws.{RawPtr-copy}
use denote.Param.Laws.{Laws}
use denote.Param.Shared.{copy_shared}
use denote.Struct.Lending.{of_Lends}
use Rattle.core.specs.declared.alloc.Allocator.{Ghosts}
use Rattle.fc_tree_slots.specs.contracts.raw.Row as P
use Rattle.fc_tree_slots.proofs.raw.Row.TheLaw.Statement.{statement}
use Rattle.fc_tree_slots.proofs.Sharing.{row_laws, Lends-row}

pub shares : (R Z : RattleType) (g : Ghosts Z.Denot) (L : Laws R) (LZ : Laws Z) → statement R Z g L LZ
shares R Z g L LZ =
    let within = Incl-trans (meet_⊑_left (R.lives ++ (Z.lives ++ [])) _) (meet_⊑_left R.lives (Z.lives ++ [])) in
    of_Lends (P.struct R Z g) (P.the_codes R.Denot Z.Denot R.coded Z.coded) (P.the_heap R Z g) (P.the_lent R Z g)
    (λ r at. row_laws R L.shr_laws r.start r.held) (copy_shared RawPtr-field RawPtr-copy, tt)
    (λ M 𝓤 𝓛 r at. Lends-row 𝓛 (P.the_row R Z g).lives R L within (g.dealloc_token r.alloc) r.start r.held)
