-- A `&` to a row of places is made of a borrow of it, item by item. Assumes `Logic`.
use Prim.Native.Nat.{ℕ, ◌+◌}
use Rattle.std.specs.Prelude.{List, [], ◌∷◌, length, Option, Some, None}
use Rattle.std.specs.Mem.{type_size}
use seplogic.Ra.Ura.{Ura}
use mir.Syntax.{Ty}
use base.Fml.{Lft, Fml, Incl, ftrue, ffalse}
use types.Logic.{Logic}
use denote.RattleType.{RattleType, RowLaws}
use denote.Param.Laws.{Laws}
use denote.RawPtr.{Ptr, block_ptr, null_ptr}
use denote.Sharing.{ShrLaws, said}
use denote.SharingLaws.{beside_shr_laws, nothing_shr_laws, said_shr_laws}
use denote.Shares.{Shares-less}
use denote.Struct.Lending.{Lends, Lends-both, Lends-first, Lends-nothing, Lends-said, Lends-false}
use Rattle.fc_tree_slots.specs.Ownership.{place, places, place_lent, places_lent, bounded, block, row_owned, row_lent}

module _ (R : RattleType) (L : RowLaws R) where
  places_laws : (b o : ℕ) (cs : List (Option R.Denot)) → ShrLaws (places_lent R b o cs)
  places_laws b o [] = nothing_shr_laws
  places_laws b o (None ∷ cs) = beside_shr_laws _ _ nothing_shr_laws (places_laws b (o + type_size R) cs)
  places_laws b o (Some x ∷ cs) = beside_shr_laws _ _ (L x b o) (places_laws b (o + type_size R) cs)

  pub row_laws : (p : Ptr) (cs : List (Option R.Denot)) → ShrLaws (row_lent R p cs)
  row_laws null_ptr cs = said_shr_laws ffalse tt
  row_laws (block_ptr b o) cs = beside_shr_laws _ _ (said_shr_laws (bounded R (length cs)) tt) (places_laws b o cs)

module _ {M : Type 1} {𝓤 : Ura M} (𝓛 : Logic 𝓤) (l : Lft) (R : RattleType) (L : Laws R) (within : Incl l R.lives) where
  Lends-place : (b o : ℕ) (c : Option R.Denot) → Lends 𝓛 (place R b o c) (place_lent R b o c) l
  Lends-place b o None = Lends-nothing 𝓛 (place R b o None) l
  Lends-place b o (Some x) = λ κ shares. Shares-less 𝓛 R R.lives l within (L.shares 𝓛) x κ shares b o

  Lends-places : (b o : ℕ) (cs : List (Option R.Denot)) → Lends 𝓛 (places R b o cs) (places_lent R b o cs) l
  Lends-places b o [] = Lends-nothing 𝓛 ftrue l
  Lends-places b o (c ∷ cs) = let next : ℕ = o + type_size R in
      Lends-both 𝓛 (place R b o c) (places R b next cs) (place_lent R b o c) (places_lent R b next cs) l (Lends-place b o c) (Lends-places b next cs)

  pub Lends-row : (token : Ty → Ptr → Fml) (p : Ptr) (cs : List (Option R.Denot)) → Lends 𝓛 (row_owned R token p cs) (row_lent R p cs) l
  Lends-row token null_ptr cs = Lends-false 𝓛 (said ffalse) l
  Lends-row token (block_ptr b o) cs = let n = length cs in let full = block R token (block_ptr b o) n in let seen = said (bounded R n) in
      Lends-both 𝓛 full (places R b o cs) seen (places_lent R b o cs) l (Lends-first 𝓛 (bounded R n) _ seen l (Lends-said 𝓛 (bounded R n) tt l))
      (Lends-places b o cs)
