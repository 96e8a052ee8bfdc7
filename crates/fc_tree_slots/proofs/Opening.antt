-- A `Row` in memory is a pointer, and the row that begins there. Assumes `Logic`.
--     pointer     what the pointer's field owns is made of nothing
--     open_row, shut_row     by a `&mut` to the row, to one place and back
--     Kept, row_back     all but the place, and the row of both
--     look_row, look_start     by a `&` to the row, to what it lends, and to its pointer
use Rattle.fc_tree_slots.proofs.Steps.{◌≡◌, ℕ, ◌+◌, ◌*◌, ◌^◌, ◌<◌, List, [], ◌∷◌, ◌++◌, length, get_or, Option, None, refl, sym, ap, ◌∙◌, Val, vptr, vstruct}
use Rattle.fc_tree_slots.proofs.Steps.{of_list, full_share, ent, Lft, GName, Share, Fml, ftrue, fsep, fat, flft, fobs, fbor, Ura, Logic, sem, Body, Item, Goal}
use Rattle.fc_tree_slots.proofs.Steps.{Seq, Step, step, ‵, ◌⊛◌, ◌$◌, ◌∵◌, !, qed, done, move, keep, drop, use1, split, rewrite, fsplit, fjoin, fpack}
use Rattle.fc_tree_slots.proofs.Steps.{RattleType, Ptr, block_ptr, ptr_val, hide, unhide, opens, word, El, R}
use base.Fml.{fhide, fobor, fauth}
use base.Logic.{sep}
use base.Stored.{Gv}
use denote.Laws.{Is, shows}
use denote.Memory.{mem, cell_at, hidden_shr, part_at, part_of}
use denote.Opens.{shr_dup, Shut}
use denote.RawPtr.{RawPtr, null_ptr, ptr_row_laws}
use denote.Shadow.{pure_i}
use denote.Steps.{peeks}
use denote.Struct.Lending.{lent_out}
use denote.Struct.Owning.{shape}
use denote.Struct.Struct.{Struct, Struct-row_laws}
use lib.Dec.{T, lit<}
use mir.Syntax.{ty_ptr}
use mir.Val.{has_ty, WT}
use types.Kit.{Soaks}
use types.Mut.{close_ref}
use Rattle.std.specs.Mem.{type_size}
use Rattle.core.proofs.alloc.Calls.{Al, token}
use Rattle.core.proofs.slots.Leases.{P}
use Rattle.std_alloc.proofs.Words.{pointer_in}
use Rattle.fc_tree_slots.specs.Lends.{with_place}
use Rattle.fc_tree_slots.specs.Ownership.{place, row_lent}
use Rattle.fc_tree_slots.specs.declared.raw.Row.{Row}
use Rattle.fc_tree_slots.specs.contracts.raw.Row as RW
use Rattle.fc_tree_slots.proofs.Memory.{Rest, reach, rejoin}

-- A pointer is a value of its type.
pub pointer_typed : (p : Ptr) → T (has_ty ty_ptr (ptr_val p)) × WT (ptr_val p)
pointer_typed null_ptr = (tt, record { fits = lit< tt })
pointer_typed (block_ptr b o) = (tt, tt)

module _ (E : El) (Z : Al) where
  abbrev pub Pr : RattleType
  Pr = RW.the_row (R E) (P E Z) Z.g

  abbrev pub Word : RattleType
  Word = Struct (shape (RW.the_type (R E) (P E Z) Z.g))

  abbrev pub word_at : ℕ → ℕ → Ptr → Fml
  word_at rb ro p = cell_at full_share Pr.mir (word p ∷ []) rb ro

  -- all of the row but the place at the index
  abbrev pub Kept : Z.row.Denot → ℕ → ℕ → ℕ → ℕ → List (Option E.row.Denot) → ℕ → Fml
  Kept a rb ro b o cs i = fsep (word_at rb ro (block_ptr b o)) (Rest (R E) (token Z a) b o cs i)

  -- what the field of a row owns is made of nothing
  pub pointer : {M : Type 1} {𝓤 : Ura M} {𝓛 : Logic 𝓤} {K : Type 0} {G : Goal 𝓤 𝓛.H} {Γ : List (Item 𝓤)} → K → (p : Ptr)
      → Step K 𝓛 (‵ (Word.own_val (p, tt) (word p ∷ [])) ∷ Γ) G Γ G
  pointer t p = step (λ k. pure_i t (Word.own_val (p, tt) (word p ∷ [])) (λ vss. (tt, (tt, tt))) ((ptr_val p ∷ [], tt), (refl, (refl, tt))) $ k)

  module _ {M : Type 1} {𝓤 : Ura M} {𝓛 : Logic 𝓤} {K : Type 0} {G : Goal 𝓤 𝓛.H} (d : Row E.row.Denot Z.row.Denot) (i : ℕ) (rb ro : ℕ) where
    -- [the place; the pointer; the rest of the row; the open borrow, in three entries]
    pub open_row : K → Soaks G → i < length d.held → {κ : Lft} {q : Share} {γ : GName} {Γ : List (Item 𝓤)}
        → ((b o : ℕ) → d.start ≡ block_ptr b o → (type_size (R E) < 2 ^ 64) × (i * type_size (R E) < 2 ^ 64)
        → Seq K 𝓛 (‵ (place (R E) b (i * type_size (R E) + o) (get_or d.held i None)) ∷ ‵ (word_at rb ro (block_ptr b o))
        ∷ ‵ (Rest (R E) (token Z d.alloc) b o d.held i)
        ∷ ‵ (fobor κ q (Body (mem Pr) rb ro γ)) ∷ ‵ (fobs γ (Pr.coded.code d)) ∷ ‵ (fauth γ (Pr.coded.code d)) ∷ Γ) G)
        → Seq K 𝓛 (‵ (fobs γ (Pr.coded.code d)) ∷ ‵ (fbor κ (Body (mem Pr) rb ro γ)) ∷ ‵ (flft κ q) ∷ Γ) G
    open_row t z lt k = opens t z Pr {h = d} rb ro (λ vs. move t (1 ∷ []) $ fsplit t $ peeks t Word (Is Word) (shows 𝓛 Word) (d.start, tt) vs (λ told. drop t $
        reach (R E) t (token Z d.alloc) d.start d.held i lt (λ b o e fits. move t (2 ∷ []) $
        rewrite t 0 (λ us. ‵ (cell_at full_share Pr.mir us rb ro)) (told.1.0 ∙ (λ j. vstruct (of_list (told.1.1.0 j ++ [])) ∷ []) ∙ ap (λ p. word p ∷ []) e)
        refl $ move t (1 ∷ 0 ∷ []) $ k b o e fits)))

    -- the place may hold another item by now
    pub row_back : K → (b o : ℕ) → d.start ≡ block_ptr b o → i < length d.held → (c : Option E.row.Denot) → {Γ : List (Item 𝓤)}
        → Step K 𝓛 (‵ ((mem Pr).own_at (with_place d i c) rb ro) ∷ Γ) G
        (‵ (place (R E) b (i * type_size (R E) + o) c) ∷ ‵ (Kept d.alloc rb ro b o d.held i) ∷ Γ) G
    unfolding part_of
    row_back t b o e lt c = step (λ k. move t (1 ∷ []) $ fsplit t $ move t (2 ∷ 1 ∷ []) $ rejoin (R E) t (token Z d.alloc) d.start b o e d.held i lt c $
        pointer t d.start $ fjoin t $ move t (1 ∷ []) $ rewrite t 0 (λ p. ‵ (word_at rb ro p)) (sym e) refl $ fjoin t $ fpack t (List Val)
        (λ us. fsep (cell_at full_share Pr.mir us rb ro) (Pr.own_val (with_place d i c) us)) (word d.start ∷ []) $ k)

    pub shut_row : K → Soaks G → (b o : ℕ) → d.start ≡ block_ptr b o → i < length d.held → (c : Option E.row.Denot)
        → {κ : Lft} {q : Share} {u v : Gv} {γ : GName} {Γ : List (Item 𝓤)}
        → let new = with_place d i c in Step K 𝓛 (‵ (fobs γ (Pr.coded.code new)) ∷ ‵ (fbor κ (Body (mem Pr) rb ro γ)) ∷ ‵ (flft κ q) ∷ Γ) G
        (‵ (place (R E) b (i * type_size (R E) + o) c) ∷ ‵ (word_at rb ro (block_ptr b o)) ∷ ‵ (Rest (R E) (token Z d.alloc) b o d.held i)
        ∷ ‵ (fobor κ q (Body (mem Pr) rb ro γ)) ∷ ‵ (fobs γ u) ∷ ‵ (fauth γ v) ∷ Γ) G
    shut_row t z b o e lt c = step (λ k. move t (1 ∷ 2 ∷ []) $ fjoin t $ move t (1 ∷ []) $ row_back t b o e lt c $ close_ref t z (mem Pr) (with_place d i c)
        {b = rb} {o = ro} $ k)

  -- the pointer of a row that is lent, and what the row lends
  abbrev pub Seen : Lft → ℕ → ℕ → Ptr → Fml
  Seen κ rb ro p = hidden_shr Word κ (p, tt) rb ro

  seen_start : {M : Type 1} {𝓤 : Ura M} (𝓛 : Logic 𝓤) (κ : Lft) (rb ro : ℕ) (p : Ptr)
      → ent 𝓤 (sem 𝓛 (Seen κ rb ro p)) (sep 𝓤 (sem 𝓛 (hidden_shr RawPtr κ p rb (ro + 0))) (sem 𝓛 (Seen κ rb ro p)))
  seen_start 𝓛 κ rb ro p = qed 𝓛 (‵ (Seen κ rb ro p) ∷ []) ∵ shr_dup ! Word (Struct-row_laws (shape (RW.the_type (R E) (P E Z) Z.g)) (ptr_row_laws, tt))
      (p, tt) rb ro κ $
      unhide ! $ fsplit ! $ fsplit ! $ hide ! $ keep ! (0 ∷ 3 ∷ []) $ done !

  module _ {M : Type 1} {𝓤 : Ura M} {𝓛 : Logic 𝓤} {K : Type 0} {G : Goal 𝓤 𝓛.H} (κ : Lft) (rb ro : ℕ) {Γ : List (Item 𝓤)} where
    pub look_row : K → (d : Row E.row.Denot Z.row.Denot) → Step K 𝓛 (‵ (row_lent (R E) d.start d.held κ) ∷ ‵ (Seen κ rb ro d.start) ∷ Γ) G
        (‵ (hidden_shr Pr κ d rb ro) ∷ Γ) G
    look_row t d = step (λ k. use1 𝓛 (‵ (Seen κ rb ro d.start) ⊛ ‵ (fhide (row_lent (R E) d.start d.held κ)))
        (lent_out 𝓛 (RW.struct (R E) (P E Z) Z.g) (RW.the_codes E.row.Denot Z.row.Denot (R E).coded (P E Z).coded) (RW.the_heap (R E) (P E Z) Z.g)
        (RW.the_lent (R E) (P E Z) Z.g) κ d rb ro) $
        split t $ move t (1 ∷ []) $ unhide t $ k)

    -- [nothing; the pointer, as it may be read; two entries that shut it]
    pub look_start : K → Soaks G → (p : Ptr) (b o : ℕ) → p ≡ block_ptr b o → {q : Share}
        → ((q' : Share) → Seq K 𝓛 (‵ ftrue ∷ ‵ (fat q' ty_ptr rb (ro + 0) (vptr b o)) ∷ Shut 𝓛 κ q (part_at RawPtr q' (block_ptr b o) rb (ro + 0))
        ∷ ‵ (Seen κ rb ro (block_ptr b o)) ∷ Γ) G)
        → Seq K 𝓛 (‵ (Seen κ rb ro p) ∷ ‵ (flft κ q) ∷ Γ) G
    look_start t z p b o e k = rewrite t 0 (λ at. ‵ (Seen κ rb ro at)) e refl $ pointer_in t z (block_ptr b o) tt rb (ro + 0)
        (seen_start 𝓛 κ rb ro (block_ptr b o)) k
