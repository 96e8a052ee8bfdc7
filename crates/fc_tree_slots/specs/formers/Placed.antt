-- The texts of `Ownership.antt` only place what the values own and lend.
use Rattle.std.specs.Prelude.{◌≡◌, ℕ, ◌+◌, ◌*◌, ◌^◌, List, [], ◌∷◌, map, length, Option, Some, None}
use Rattle.std.specs.Mem.{type_size}
use mathlib.Core.Path.{refl, ◌∙◌}
use mathlib.Core.Former.{this}
use lib.ListN.{length-map}
use base.Fraction.{full_share}
use base.Fml.{Fml, fsep, flt, froom}
use mir.Raw.{raw}
use mir.Syntax.{Ty, ty_array}
use prog.Memory.{size}
use denote.RattleType.{RattleType}
use denote.HoleLaws.{Alike}
use denote.Memory.{lone, part_of, raw_all}
use denote.RawPtr.{Ptr, block_ptr, null_ptr}
use denote.Sharing.{said, beside}
use Rattle.fc_tree_slots.specs.formers.Maybe.{maybe}
use Rattle.fc_tree_slots.specs.Ownership.{if_sized, place, places, place_lent, places_lent, bounded, block, row_owned, row_lent}

module _ (R S : RattleType) (h : R.Denot → S.Denot) (a : Alike R S h) where
  abbrev on : Option R.Denot → Option S.Denot
  on = (maybe this).map R.Denot S.Denot h

  abbrev width : type_size S ≡ type_size R
  width = λ i. size (lone (a.mir_same i))

  place_placed : (b o : ℕ) (c : Option R.Denot) → place S b o (on c) ≡ place R b o c
  unfolding part_of
  place_placed b o (Some x) = λ i. part_of (raw_all (a.mir_same i)) (λ (_ : Unit {0}). a.own_same x i) full_share tt b o
  place_placed b o None = λ i. froom (raw (lone (a.mir_same i))) b o

  places_placed : (b o : ℕ) (cs : List (Option R.Denot)) → places S b o (map on cs) ≡ places R b o cs
  places_placed b o [] = refl
  places_placed b o (c ∷ cs) =
      let rest : places S b (o + type_size S) (map on cs) ≡ places R b (o + type_size R) cs = (λ i. places S b (o + width i) (map on cs)) ∙ places_placed b (o + type_size R) cs in
      λ i. fsep (place_placed b o c i) (rest i)

  bounded_placed : (cs : List (Option R.Denot)) → bounded S (length (map on cs)) ≡ bounded R (length cs)
  bounded_placed cs = λ i. flt (length-map cs on i * width i) (2 ^ 63)

  block_placed : (token : Ty → Ptr → Fml) (p : Ptr) (cs : List (Option R.Denot)) → block S token p (length (map on cs)) ≡ block R token p (length cs)
  block_placed token p cs = λ i. fsep (bounded_placed cs i) (if_sized (width i) (token (raw (ty_array (lone (a.mir_same i)) (length-map cs on i))) p))

  pub own_placed : (token : Ty → Ptr → Fml) (p : Ptr) (cs : List (Option R.Denot)) → row_owned S token p (map on cs) ≡ row_owned R token p cs
  own_placed token (block_ptr b o) cs = λ i. fsep (block_placed token (block_ptr b o) cs i) (places_placed b o cs i)
  own_placed token null_ptr cs = refl

  place_lent_placed : (b o : ℕ) (c : Option R.Denot) → place_lent S b o (on c) ≡ place_lent R b o c
  place_lent_placed b o (Some x) = λ i. a.shr_same x i b o
  place_lent_placed b o None = refl

  places_lent_placed : (b o : ℕ) (cs : List (Option R.Denot)) → places_lent S b o (map on cs) ≡ places_lent R b o cs
  places_lent_placed b o [] = refl
  places_lent_placed b o (c ∷ cs) =
      let rest : places_lent S b (o + type_size S) (map on cs) ≡ places_lent R b (o + type_size R) cs = (λ i. places_lent S b (o + width i) (map on cs)) ∙ places_lent_placed b (o + type_size R) cs in
      λ i. beside (place_lent_placed b o c i) (rest i)

  pub lent_placed : (p : Ptr) (cs : List (Option R.Denot)) → row_lent S p (map on cs) ≡ row_lent R p cs
  lent_placed (block_ptr b o) cs = λ i. beside (said (bounded_placed cs i)) (places_lent_placed b o cs i)
  lent_placed null_ptr cs = refl
