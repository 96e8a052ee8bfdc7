-- What the walks of `raw` share, at a row of places. Assumes `Logic`.
--     reach, rejoin     a place is taken out of the row, with the bounds of its offset, and put back
--     bound, over     the bound of the whole row, and the way from one place to another
--     reach_lent     the same of a row that is lent, which needs no way back
--     value_out, emptied, value_in     an item's value is taken out of its place, which is room then, and put in
--     cut, glued     room for an array is a row of empty places
--     nowhere     where an item has no size, empty places are made of nothing
--     sized, unsized     whether there is a block to give back
use Rattle.fc_tree_slots.proofs.Steps.{◌≡◌, ℕ, zero, suc, ◌+◌, ◌*◌, ◌^◌, ◌<◌, List, [], ◌∷◌, length, set, get_or, Option, Some, None, refl, sym, ap, ◌∙◌, arith}
use Rattle.fc_tree_slots.proofs.Steps.{length-set, Ura, Lft, Fml, fsep, never, id⊢, Logic, Item, Goal, Seq, Step, step, ‵, ◌$◌, use1, move, drop, rewrite}
use Rattle.fc_tree_slots.proofs.Steps.{fsplit, fjoin, flt_i, flt_l, RattleType, Ptr, block_ptr, in_a_block, ftrue, fat, froom, full_share, Val, El, R, elτ}
use Rattle.fc_tree_slots.proofs.Steps.{some, given, pick, learn, split, use2, ◌⊛◌, nothing, map, ◌++◌, replicate, use0, raw}
use lib.ListN.{take, take-append-drop, length-take, length-map}
use lib.ListN.{drop as drop_l}
use denote.Slice.{elements_shared}
use base.Logic.{wand}
use prog.Align.{dv_self}
use prog.Memory.{align}
use mir.Syntax.{Ty, ty_array}
use native.Mathlib.Nat.{zero-mul, suc-mul}
use borrow.Table.OneValue.{part_in, part_out}
use Rattle.core.proofs.mem.Param.{Good}
use Rattle.std_alloc.proofs.RawLayout.{as_raw, as_written}
use Rattle.core.proofs.ptr.Rows.{times_below, one_below}
use Rattle.std.specs.Mem.{type_size}
use Rattle.fc_tree_slots.specs.Ownership.{place, places, place_lent, places_lent, block, row_owned, row_lent, if_sized}

pub inside : {X : Type 0} (cs : List (Option X)) (i : ℕ) (x : X) → get_or cs i None ≡ Some x → i < length cs
inside [] i x e = cc
inside (c ∷ cs) zero x e = omega arith
inside (c ∷ cs) (suc i) x e = omega (arith, inside cs i x e)

module _ (R : RattleType) where
  abbrev s : ℕ
  s = type_size R

  -- the places but the i-th
  abbrev others : ℕ → ℕ → List (Option R.Denot) → ℕ → Fml
  others b o [] i = ftrue
  others b o (c ∷ cs) zero = places R b (o + s) cs
  others b o (c ∷ cs) (suc i) = fsep (place R b o c) (others b (o + s) cs i)

  abbrev pub Rest : (Ty → Ptr → Fml) → ℕ → ℕ → List (Option R.Denot) → ℕ → Fml
  Rest token b o cs i = fsep (block R token (block_ptr b o) (length cs)) (others b o cs i)

  next : (o i : ℕ) → i * s + (o + s) ≡ suc i * s + o
  next o i = omega (arith, suc-mul i s)

  here : (o : ℕ) → o ≡ 0 * s + o
  here o = omega (arith, zero-mul s)

  pub small_step : (n i : ℕ) → i < n → n * s < 2 ^ 63 → (s < 2 ^ 64) × (i * s < 2 ^ 64)
  small_step n i lt small =
      let one = one_below n s (2 ^ 63) (omega arith) small in
      let far = times_below i n s (2 ^ 63) (omega arith) small in (omega arith, omega arith)

  module _ {M : Type 1} {𝓤 : Ura M} {𝓛 : Logic 𝓤} {K : Type 0} {G : Goal 𝓤 𝓛.H} where
    out : K → (b o : ℕ) (cs : List (Option R.Denot)) (i : ℕ) → i < length cs → {Γ : List (Item 𝓤)}
        → Step K 𝓛 (‵ (place R b (i * s + o) (get_or cs i None)) ∷ ‵ (others b o cs i) ∷ Γ) G (‵ (places R b o cs) ∷ Γ) G
    out t b o [] i lt = absurd (omega arith)
    out t b o (c ∷ cs) zero lt = step (λ k. fsplit t $ rewrite t 0 (λ at. ‵ (place R b at c)) (here o) refl $ k)
    out t b o (c ∷ cs) (suc i) lt = step (λ k. fsplit t $ move t (1 ∷ []) $ out t b (o + s) cs i (omega arith) $
        rewrite t 0 (λ at. ‵ (place R b at (get_or cs i None))) (next o i) refl $ move t (2 ∷ 1 ∷ []) $ fjoin t $ move t (1 ∷ []) $ k)

    into : K → (b o : ℕ) (cs : List (Option R.Denot)) (i : ℕ) → i < length cs → (c : Option R.Denot) → {Γ : List (Item 𝓤)}
        → Step K 𝓛 (‵ (places R b o (set cs i c)) ∷ Γ) G (‵ (place R b (i * s + o) c) ∷ ‵ (others b o cs i) ∷ Γ) G
    into t b o [] i lt c = absurd (omega arith)
    into t b o (x ∷ cs) zero lt c = step (λ k. rewrite t 0 (λ at. ‵ (place R b at c)) (sym (here o)) refl $ fjoin t $ k)
    into t b o (x ∷ cs) (suc i) lt c = step (λ k. rewrite t 0 (λ at. ‵ (place R b at c)) (sym (next o i)) refl $ move t (1 ∷ []) $ fsplit t $ move t
        (2 ∷ 1 ∷ []) $
        into t b (o + s) cs i (omega arith) c $ move t (1 ∷ 0 ∷ []) $ fjoin t $ k)

    pub reach : K → (token : Ty → Ptr → Fml) (p : Ptr) (cs : List (Option R.Denot)) (i : ℕ) → i < length cs → {Γ : List (Item 𝓤)}
        → ((b o : ℕ) → p ≡ block_ptr b o → (s < 2 ^ 64) × (i * s < 2 ^ 64)
        → Seq K 𝓛 (‵ (place R b (i * s + o) (get_or cs i None)) ∷ ‵ (Rest token b o cs i) ∷ Γ) G)
        → Seq K 𝓛 (‵ (row_owned R token p cs) ∷ Γ) G
    reach t token p cs i lt k = in_a_block t p (λ r. row_owned R token r cs) (id⊢ 𝓤 (never 𝓤))
        (λ b o e. fsplit t $ fsplit t $ flt_l t (λ small. flt_i t (length cs * s) (2 ^ 63) small $ fjoin t $
        move t (1 ∷ []) $ out t b o cs i lt $ move t (2 ∷ 1 ∷ []) $ fjoin t $ move t (1 ∷ []) $ k b o e (small_step (length cs) i lt small)))

    pub rejoin : K → (token : Ty → Ptr → Fml) (p : Ptr) (b o : ℕ) → p ≡ block_ptr b o → (cs : List (Option R.Denot)) (i : ℕ) → i < length cs
        → (c : Option R.Denot)
        → {Γ : List (Item 𝓤)} → Step K 𝓛 (‵ (row_owned R token p (set cs i c)) ∷ Γ) G (‵ (place R b (i * s + o) c) ∷ ‵ (Rest token b o cs i) ∷ Γ) G
    rejoin t token p b o e cs i lt c = step (λ k. move t (1 ∷ []) $ fsplit t $
        rewrite t 0 (λ n. ‵ (block R token (block_ptr b o) n)) (sym (length-set cs i c)) refl $
        move t (2 ∷ 1 ∷ []) $ into t b o cs i lt c $ move t (1 ∷ 0 ∷ []) $ fjoin t $ rewrite t 0 (λ r. ‵ (row_owned R token r (set cs i c))) (sym e) refl $ k)

    -- the bound of the whole row
    pub bound : K → (token : Ty → Ptr → Fml) (b o : ℕ) (cs : List (Option R.Denot)) (i : ℕ) → {Γ : List (Item 𝓤)}
        → (length cs * s < 2 ^ 63 → Seq K 𝓛 (‵ (Rest token b o cs i) ∷ Γ) G) → Seq K 𝓛 (‵ (Rest token b o cs i) ∷ Γ) G
    bound t token b o cs i k = fsplit t $ fsplit t $ flt_l t (λ small. flt_i t (length cs * s) (2 ^ 63) small $ fjoin t $ fjoin t $ k small)

    -- one place is put back, and another taken out
    pub over : K → (token : Ty → Ptr → Fml) (b o : ℕ) (cs : List (Option R.Denot)) (i j : ℕ) → i < length cs → (c : Option R.Denot) → j < length cs
        → {Γ : List (Item 𝓤)} → Step K 𝓛 (‵ (place R b (j * s + o) (get_or (set cs i c) j None)) ∷ ‵ (Rest token b o (set cs i c) j) ∷ Γ) G
        (‵ (place R b (i * s + o) c) ∷ ‵ (Rest token b o cs i) ∷ Γ) G
    over t token b o cs i j lt c le = step (λ k. move t (1 ∷ []) $ fsplit t $
        rewrite t 0 (λ n. ‵ (block R token (block_ptr b o) n)) (sym (length-set cs i c)) refl $ move t (2 ∷ 1 ∷ []) $ into t b o cs i lt c $
        out t b o (set cs i c) j (omega (arith, length-set cs i c, le)) $ move t (2 ∷ 1 ∷ []) $ fjoin t $ move t (1 ∷ []) $ k)

    seen : K → (κ : Lft) (b o : ℕ) (cs : List (Option R.Denot)) (i : ℕ) → i < length cs → {Γ : List (Item 𝓤)}
        → Step K 𝓛 (‵ (place_lent R b (i * s + o) (get_or cs i None) κ) ∷ Γ) G (‵ (places_lent R b o cs κ) ∷ Γ) G
    seen t κ b o [] i lt = absurd (omega arith)
    seen t κ b o (c ∷ cs) zero lt = step (λ k. fsplit t $ move t (1 ∷ []) $ drop t $ rewrite t 0 (λ at. ‵ (place_lent R b at c κ)) (here o) refl $ k)
    seen t κ b o (c ∷ cs) (suc i) lt = step (λ k. fsplit t $ drop t $ seen t κ b (o + s) cs i (omega arith) $ rewrite t 0
        (λ at. ‵ (place_lent R b at (get_or cs i None) κ)) (next o i) refl $ k)

    pub reach_lent : K → (κ : Lft) (p : Ptr) (cs : List (Option R.Denot)) (i : ℕ) → i < length cs → {Γ : List (Item 𝓤)}
        → ((b o : ℕ) → p ≡ block_ptr b o → (s < 2 ^ 64) × (i * s < 2 ^ 64) → Seq K 𝓛 (‵ (place_lent R b (i * s + o) (get_or cs i None) κ) ∷ Γ) G)
        → Seq K 𝓛 (‵ (row_lent R p cs κ) ∷ Γ) G
    reach_lent t κ p cs i lt k = in_a_block t p (λ r. row_lent R r cs κ) (id⊢ 𝓤 (never 𝓤))
        (λ b o e. fsplit t $ flt_l t (λ small. seen t κ b o cs i lt $ k b o e (small_step (length cs) i lt small)))

    run : K → (κ : Lft) (b o : ℕ) (xs : List R.Denot) (rest : List (Option R.Denot)) → {Γ : List (Item 𝓤)}
        → Step K 𝓛 (‵ (elements_shared R xs b o κ) ∷ Γ) G (‵ (places_lent R b o (map Some xs ++ rest) κ) ∷ Γ) G
    run t κ b o [] rest = step (λ k. drop t $ nothing t $ k)
    run t κ b o (x ∷ xs) rest = step (λ k. fsplit t $ move t (1 ∷ []) $ run t κ b (o + s) xs rest $ move t (1 ∷ 0 ∷ []) $ fjoin t $ k)

    -- the items of the first n places, none of which is empty
    pub run_seen : K → (κ : Lft) (p : Ptr) (cs : List (Option R.Denot)) (n : ℕ) (xs : List R.Denot) → take n cs ≡ map Some xs → {Γ : List (Item 𝓤)}
        → ((b o : ℕ) → p ≡ block_ptr b o → length xs * s < 2 ^ 63 → Seq K 𝓛 (‵ (elements_shared R xs b o κ) ∷ Γ) G) → Seq K 𝓛 (‵ (row_lent R p cs κ) ∷ Γ) G
    run_seen t κ p cs n xs is k = in_a_block t p (λ r. row_lent R r cs κ) (id⊢ 𝓤 (never 𝓤)) (λ b o e. fsplit t $ flt_l t (λ small.
        rewrite t 0 (λ l. ‵ (places_lent R b o l κ)) (sym (take-append-drop n cs) ∙ ap (λ l. l ++ drop_l n cs) is) refl $ run t κ b o xs (drop_l n cs) $
        k b o e (times_below (length xs) (length cs) s (2 ^ 63) (omega (arith, ap length is, length-map xs Some, length-take n cs)) small)))

module _ (E : El) {M : Type 1} {𝓤 : Ura M} {𝓛 : Logic 𝓤} {K : Type 0} {G : Goal 𝓤 𝓛.H} {Γ : List (Item 𝓤)} where
  pub value_out : K → (x : E.row.Denot) (b at : ℕ) → ((v : Val) → Good E v → Seq K 𝓛 (‵ (fat full_share (elτ E) b at v) ∷ ‵ (E.row.own_val x (v ∷ [])) ∷ Γ) G)
      → Seq K 𝓛 (‵ (place (R E) b at (Some x)) ∷ Γ) G
  value_out t x b at k = use1 𝓛 (some (λ (v : Val). ‵ (fat full_share (elτ E) b at v) ⊛ ‵ (E.row.own_val x (v ∷ []))))
      (part_out 𝓛 (R E) refl full_share x b at) $ pick t (λ v. split t $
      use1 𝓛 (given (Good E v) (‵ (fat full_share (elτ E) b at v))) (𝓛.laws.at_wt full_share (elτ E) b at v) $ learn t (λ ok. k v ok))

  pub emptied : K → (b at : ℕ) (v : Val) → Step K 𝓛 (‵ (place (R E) b at None) ∷ Γ) G (‵ (fat full_share (elτ E) b at v) ∷ Γ) G
  emptied t b at v = step (λ k. use1 𝓛 (‵ (froom (elτ E) b at)) (𝓛.laws.at_room (elτ E) b at v) $ as_raw t (elτ E) b at $ k)

  pub value_in : K → (x : E.row.Denot) (b at : ℕ) (v : Val) → Step K 𝓛 (‵ (place (R E) b at (Some x)) ∷ Γ) G
      (‵ (fat full_share (elτ E) b at v) ∷ ‵ (E.row.own_val x (v ∷ [])) ∷ Γ) G
  value_in t x b at v = step (λ k. use2 𝓛 (‵ (place (R E) b at (Some x))) (part_in 𝓛 (R E) refl full_share x b at v) $ k)

module _ (E : El) {M : Type 1} {𝓤 : Ura M} {𝓛 : Logic 𝓤} {K : Type 0} {G : Goal 𝓤 𝓛.H} where
  pub cut : K → (n b o : ℕ) → {Γ : List (Item 𝓤)} → Step K 𝓛 (‵ (places (R E) b o (replicate n None)) ∷ Γ) G (‵ (froom (ty_array (elτ E) n) b o) ∷ Γ) G
  cut t zero b o = step (λ k. move t (0 ∷ []) $ drop t $ nothing t $ k)
  cut t (suc n) b o = step (λ k. use1 𝓛 (‵ (froom (elτ E) b o) ⊛ ‵ (froom (ty_array (elτ E) n) b (o + type_size (R E)))) (𝓛.laws.room_uncons (elτ E) n b o) $
      split t $ move t (1 ∷ []) $
      cut t n b (o + type_size (R E)) $ move t (1 ∷ []) $ as_raw t (elτ E) b o $ fjoin t $ k)

  pub glued : K → (n b o : ℕ) → {Γ : List (Item 𝓤)} → Step K 𝓛 (‵ (froom (ty_array (elτ E) n) b o) ∷ Γ) G (‵ (places (R E) b o (replicate n None)) ∷ Γ) G
  glued t zero b o = step (λ k. drop t $ use0 𝓛 (‵ (froom (ty_array (elτ E) 0) b o)) (𝓛.laws.room_nil (elτ E) b o) $ k)
  glued t (suc n) b o = step (λ k. fsplit t $ as_written t (elτ E) b o $ move t (1 ∷ []) $ glued t n b (o + type_size (R E)) $ move t (1 ∷ 0 ∷ []) $
      use2 𝓛 (‵ (froom (ty_array (elτ E) (suc n)) b o)) (𝓛.laws.room_cons (elτ E) n b o) $ k)

  pub nowhere : K → type_size (R E) ≡ 0 → (n b o : ℕ) → {Γ : List (Item 𝓤)} → Step K 𝓛 (‵ (places (R E) b o (replicate n None)) ∷ Γ) G Γ G
  nowhere t none zero b o = step (λ k. nothing t $ k)
  nowhere t none (suc n) b o = step (λ k. nowhere t none n b (o + type_size (R E)) $ use0 𝓛 (‵ (froom (ty_array (elτ E) 0) b o)) (𝓛.laws.room_nil (elτ E) b o) $
      use1 𝓛 (‵ (froom (elτ E) b o) ⊛ raw (wand 𝓤 (𝓛.H.room (elτ E) b o) (𝓛.H.room (ty_array (elτ E) 0) b o)))
      (𝓛.laws.room_as (ty_array (elτ E) 0) (elτ E) b o (none ∙ sym (zero-mul (type_size (R E)))) (dv_self (align (elτ E)))) $ split t $ move t (1 ∷ []) $ drop
      t $ as_raw t (elτ E) b o $ fjoin t $ k)

pub sized : (n : ℕ) (owned : Fml) → (n ≡ 0 → ⊥) → if_sized n owned ≡ owned
sized zero owned nz = absurd (nz refl)
sized (suc n) owned nz = refl

pub unsized : (n : ℕ) (owned : Fml) → n ≡ 0 → if_sized n owned ≡ ftrue
unsized zero owned e = refl
unsized (suc n) owned e = absurd (omega arith)
