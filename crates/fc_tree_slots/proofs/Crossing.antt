-- What a row owns and lends may cross threads as its items may.
use Rattle.std.specs.Prelude.{ℕ, zero, suc, ◌+◌, List, [], ◌∷◌, Option, Some, None}
use Rattle.std.specs.Mem.{type_size}
use base.Fraction.{full_share}
use base.Fml.{Fml}
use base.Shift.{Keyless}
use mir.Syntax.{Ty}
use denote.RattleType.{RattleType}
use denote.RawPtr.{Ptr, block_ptr, null_ptr}
use denote.Param.Send.{IsSend, IsSync, Common, part_keyless}
use Rattle.fc_tree_slots.specs.Ownership.{places, places_lent, row_owned, row_lent, if_sized}

if_crosses : (n : ℕ) (owned : Fml) → Keyless owned → Keyless (if_sized n owned)
if_crosses zero owned k = tt
if_crosses (suc n) owned k = k

module _ (R : RattleType) where
  places_cross : IsSend R → (b o : ℕ) (cs : List (Option R.Denot)) → Keyless (places R b o cs)
  places_cross sent b o [] = tt
  places_cross sent b o (None ∷ cs) = (tt, places_cross sent b (o + type_size R) cs)
  places_cross sent b o (Some x ∷ cs) = (part_keyless R sent full_share x b o, places_cross sent b (o + type_size R) cs)

  pub row_crosses : (token : Ty → Ptr → Fml) → ((τ : Ty) (p : Ptr) → Keyless (token τ p)) → IsSend R → (p : Ptr) (cs : List (Option R.Denot))
      → Keyless (row_owned R token p cs)
  row_crosses token frees sent null_ptr cs = tt
  row_crosses token frees sent (block_ptr b o) cs = ((tt, if_crosses (type_size R) _ (frees _ (block_ptr b o))), places_cross sent b o cs)

  lent_cross : IsSync R → (b o : ℕ) (cs : List (Option R.Denot)) → Common (places_lent R b o cs)
  lent_cross shared b o [] κ = tt
  lent_cross shared b o (None ∷ cs) κ = (tt, lent_cross shared b (o + type_size R) cs κ)
  lent_cross shared b o (Some x ∷ cs) κ = (shared.shared x b o κ, lent_cross shared b (o + type_size R) cs κ)

  pub row_shared : IsSync R → (p : Ptr) (cs : List (Option R.Denot)) → Common (row_lent R p cs)
  row_shared shared null_ptr cs κ = tt
  row_shared shared (block_ptr b o) cs κ = (tt, lent_cross shared b o cs κ)
