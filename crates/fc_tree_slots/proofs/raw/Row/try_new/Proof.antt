-- `try_new` cuts the new block into empty places, and keeps the right to give it back.
use Rattle.fc_tree_slots.proofs.Steps.{Al, token, ◌≡◌, ℕ, ◌*◌, ◌^◌, ◌<◌, List, [], ◌∷◌}
use Rattle.fc_tree_slots.proofs.Steps.{◌++◌, replicate, None, refl, sym, ap, ◌∙◌, subst, arith, w64, length-replicate}
use Rattle.fc_tree_slots.proofs.Steps.{Val, vint, vstruct, vcons, vnil, inst_fn, emp, ftrue, Fml, flft, ◌⊑◌, fact, fact_i, tables, WpFn, Logic, Ura, Item, Goal}
use Rattle.fc_tree_slots.proofs.Steps.{Step, step, ‵, raw, prop, at_ret, ◌⊛◌, ◌$◌, ◌∵◌, !, qed, by, move, keep, drop, use0, use1, use2, split, join, rewrite}
use Rattle.fc_tree_slots.proofs.Steps.{regoal, fsplit, fjoin, flt_i, whole, agg, enter, stop, fld, of_opd, addr, lit, bin, size_word, align_word, and_then}
use Rattle.fc_tree_slots.proofs.Steps.{no_more, first, exec, returns, alloc_all, pass_all, free_all, look_at, get, get_in, through, sets, sets_last, is, env}
use Rattle.fc_tree_slots.proofs.Steps.{RattleType, owns, layout, Ptr, block_ptr, types_at, nothing, heard, Stays, stay_dropped, walk_of, Goes-dropped}
use Rattle.fc_tree_slots.proofs.Steps.{proved_at, leaves, word, word-Good, after, El, R, elτ, args, param_at}
use mathlib.Core.Bool.{true, false}
use lib.Dec.{T, eqb, eqb→eq, lit<}
use mir.Syntax.{Body, ty_array}
use prog.Memory.{align, capped}
use prog.Capped.{capped_fits, capped_is, capped_small}
use prog.Wp.{Wp, after_seq, at_return}
use types.Kit.{Sq, Post as After, any_q}
use types.Match.{live, vrt, in_variant}
use types.Run.{branches, skips, returns_within, switches_on}
use types.ByLocal.{get_tag, lands_as}
use denote.Laws.{Is}
use denote.Steps.{owned}
use denote.Struct.Struct.{Struct, Struct-Makes}
use denote.Struct.Declared as Declared
use denote.Triple.Call.{calls_at}
use Rattle.std.specs.Prelude.{IfOk, Ok, Err}
use Rattle.std.specs.Mem.{type_size}
use Rattle.std.specs.Vec.Ownership.{FitsInBlock}
use Rattle.core.specs.contracts.result.Result as RS
use Rattle.core.specs.contracts.alloc.AllocError as AE
use Rattle.core.proofs.alloc.Calls.{Answer-typed}
use Rattle.core.proofs.alloc.Shapes.{head, arm_body}
use Rattle.core.proofs.atomic.Steps.{fm}
use Rattle.core.proofs.slots.Leases.{uncapped, block_ty, block_size, block_align}
use Rattle.std_alloc.proofs.RawLayout.{as_written}
use Rattle.std_alloc.proofs.RcSteps.{first_Good, is_not}
use Rattle.std_alloc.proofs.ResultValues.{ok_of, err_of}
use Rattle.core.proofs.alloc.Calls.{Takes, at_takes, Answered, Takes-goes, Takes-gives, answers}
use base.Fml.{Incl-trans}
use types.Kit.{later, await}
use Rattle.fc_tree_slots.specs.Ownership.{places, block, if_sized}
use Rattle.fc_tree_slots.specs.declared.raw.Row.{Row}
use Rattle.fc_tree_slots.proofs.Memory.{cut, nowhere, sized, unsized}
use Rattle.fc_tree_slots.proofs.Opening.{Pr, pointer}
use Rattle.fc_tree_slots.specs.contracts.raw.Row.try_new as f
use Rattle.fc_tree_slots.proofs.raw.Row.try_new.Statement.{statement}
use Rattle.fc_tree_slots.proofs.raw.Row.try_new.Code as code

module _ (E : El) (Z : Al) where
  abbrev Out : RattleType
  Out = RS.the_row (Pr E Z) AE.the_row

  abbrev empty : Ptr → ℕ → Z.row.Denot → Row E.row.Denot Z.row.Denot
  empty p n a = record { start = p; held = replicate n None; alloc = a }

  -- the answer is made of the places and the right to give them back
  made : {M : Type 1} {𝓤 : Ura M} {𝓛 : Logic 𝓤} {K : Type 0} {Γ : List (Item 𝓤)} {G : Goal 𝓤 𝓛.H} → K → (a : Z.row.Denot) (b o n : ℕ)
      → n * type_size (R E) < 2 ^ 63
      → Step K 𝓛 (‵ (Out.own_val (Ok (empty (block_ptr b o) n a)) (live 0 (vcons (word (block_ptr b o)) vnil) ∷ [])) ∷ Γ) G
      (‵ (if_sized (type_size (R E)) (token Z a (block_ty E n) (block_ptr b o))) ∷ ‵ (places (R E) b o (replicate n None)) ∷ Γ) G
  made {𝓛 = 𝓛} t a b o n small = step (λ k. let p : Ptr = block_ptr b o in flt_i t (n * type_size (R E)) (2 ^ 63) small $ fjoin t $
      rewrite t 0 (λ m. ‵ (block (R E) (token Z a) p m)) (sym (length-replicate n None)) refl $ fjoin t $ pointer E Z t p $ fjoin t $
      use1 𝓛 (‵ (Out.own_val (Ok (empty p n a)) (live 0 (vcons (word p) vnil) ∷ []))) (ok_of 𝓛 (Pr E Z) AE.the_row (empty p n a) (word p)) $ k)

no_size : (s : ℕ) → T (eqb (capped s) 0) → s ≡ 0
no_size s zero = let none = eqb→eq (capped s) 0 zero in let low = capped_small s (omega (arith, none)) in sym (capped_is s (omega arith)) ∙ none

pub try_new_spec : {M : Type 1} → statement M
try_new_spec 𝓤 𝓛 𝓜 𝓡 wired X Y L LY g dict drops met gone =
    let E : El = record { row = X; laws = L } in let Z : Al = record { row = Y; laws = LY; g = g; d = dict; drops = drops } in
    let fn = inst_fn (args E Z) code.function in
    let En = f.ended X Y g dict drops in let ps = En.signature.params in let c = f.clauses X Y g dict drops 𝓛 𝓜.mem 𝓡.returns in let 𝓣 =
    tables 𝓤 𝓛.H 𝓜 𝓡 𝓡.env in
    let hs : Stays ps En.kept = (stay_dropped _ _, (stay_dropped _ _, tt)) in
    proved_at 𝓛 En hs c 𝓜 𝓡 (Goes-dropped 𝓛 3 (param_at 0 ps) En.kept.0 (λ κs x f. refl), (Goes-dropped 𝓛 3 (param_at 1 ps) En.kept.1.0 (λ κs x f. refl), tt))
    (f.Key.name (args E Z)) fn (code.unfolded 𝓤 𝓛.H 𝓜 𝓡 wired (X, (Y, tt)) dict drops) (λ z are.
    let κ = z.0.0.0 in let κ₁ = z.0.0.1.0 in let κ₂ = z.0.0.1.1.0 in let q = z.0.1.0 in let self = z.0.3.0 in let len = z.0.3.1.0 in
    let Post = (walk_of 𝓛 En hs c).post z in let others = ‵ (flft κ₁ z.0.1.1.0) ⊛ ‵ (flft κ₂ z.0.1.1.1.0) ⊛ ‵ ftrue in let s = type_size (R E) in
    let Gives : (Out E Z).Denot → Type 0 = λ r. IfOk r (λ t. (t.held ≡ replicate len None) × (t.alloc ≡ self.now)) in
    let out : (r : (Out E Z).Denot) (v : Val) → Gives r → Sq 𝓛 (‵ ((Out E Z).own_val r (v ∷ [])) ∷ ‵ (flft κ q) ∷ others ∷ []) (prop (Post v)) = λ r v gives.
    move ! (1 ∷ 2 ∷ []) $ join ! $ use0 𝓛 (raw (fact 𝓤 (Gives r))) (fact_i 𝓤 (Gives r) (emp 𝓤) gives) $ nothing ! $ nothing ! $ fjoin ! $ nothing ! $ fjoin ! $
    move ! (2 ∷ 0 ∷ 3 ∷ 1 ∷ []) $
    by ! (leaves 𝓛 En hs c z v r (tt, (tt, tt)) (tt, (tt, tt))) in
    qed 𝓛 (((‵ (flft κ q) ⊛ others) ⊛ ‵ (owns (types_at ps z.0.0) z.0.3 z.0.4))
    ∷ (raw (fact 𝓤 (κ₁ ⊑ X.lives)) ⊛ raw (fact 𝓤 (κ₂ ⊑ Y.lives)) ⊛ raw (fact 𝓤 (FitsInBlock (R E) len))) ∷ []) ∵
    move ! (1 ∷ []) $ split ! $ drop ! $ split ! $ heard ! (κ₂ ⊑ Y.lives) (λ in_alloc. heard ! (FitsInBlock (R E) len)
    (λ fit. split ! $ split ! $ move ! (2 ∷ []) $ fsplit ! $ fsplit ! $ drop ! $ keep ! (0 ∷ 2 ∷ 3 ∷ []) $
    let small = fit.0 in let bytes : len * s < 2 ^ 64 = omega arith in
    regoal ! (λ us. prop (WpFn 𝓤 𝓛.H 𝓣.C 𝓣.Λ fn us Post)) (λ j. are.0.0 j ++ (are.1.0.0 j ++ [])) refl $
    enter ! _ _ _ _ _ $ alloc_all ! (λ l. pass_all ! refl ((tt, tt), ((tt, record { fits = are.1.0.1 }), tt)) $ let Ev = env fn.locals l in
    let typed = λ (p : Ptr). first_Good (layout (Pr E Z)) (word p) (word-Good [] p) in
    sets ! (of_opd ! (size_word !)) refl (tt, record { fits = capped_fits s }) $ sets ! (bin ! (get ! refl) (lit ! tt) tt) refl (tt, tt) $ first ! $
    branches ! (get ! refl)
    (λ zero. let p : Ptr = block_ptr self.ref_ptr.0 self.ref_ptr.1 in
    sets ! (addr ! (through ! refl (stop !))) refl (tt, tt) $ sets ! (of_opd ! (get ! refl)) refl (tt, tt) $
    sets ! (agg ! (and_then ! (get ! refl) (no_more !))) refl (word-Good [] p) $
    sets ! (agg ! (and_then ! (lit ! tt) (and_then ! (get ! refl) (no_more !)))) refl (typed p) $ returns_within ! Post refl (look_at ! 0 refl) $
    free_all ! refl $
    drop ! $ nowhere E ! (no_size s zero) len self.ref_ptr.0 self.ref_ptr.1 $ nothing ! $ rewrite ! 0 (λ (F : Fml). ‵ F)
    (sym (unsized s (token Z self.now (block_ty E len) p) (no_size s zero))) refl $
    made E Z ! self.now self.ref_ptr.0 self.ref_ptr.1 len small $ out (Ok (empty E Z p len self.now)) (live 0 (vcons (word p) vnil)) (refl, refl))
    (λ some. skips ! $ exec ! 𝓣.C 𝓣.Λ Ev (after 3 fn.body) (at_ret Ev Post) $
    let both : Body = head (after 5 fn.body) in
    let Then : After 𝓤 𝓛.H = any_q (after_seq 𝓤 𝓛.H (Wp 𝓤 𝓛.H 𝓣.C 𝓣.Λ Ev (after 6 fn.body) (at_return 𝓤 𝓛.H Ev Post)) (at_return 𝓤 𝓛.H Ev Post)) in
    let τ = block_ty E len in let al = capped (align (elτ E)) in let y = at_takes Z 𝓛 𝓜.mem 𝓡.returns κ q self.ref_ptr self.now (len * s) al τ in
    sets ! (is ! (bin ! (get ! refl) (get ! refl) (record { fits = subst (λ k. k < 2 ^ 64) (sym (uncapped len s bytes)) bytes }))
    (ap (vint w64) (uncapped len s bytes))) refl (tt, record { fits = bytes }) $
    use2 𝓛 (raw ((Takes Z 𝓛 𝓜.mem 𝓡.returns).pre y)) (Takes-goes Z 𝓛 𝓜.mem 𝓡.returns κ q self.ref_ptr self.now (Incl-trans z.0.2.0 in_alloc) (len * s) al τ
    (block_size E len bytes) (block_align E len) bytes (capped_fits (align (elτ E)))) $
    calls_at ! (fm 𝓛 𝓜 𝓡) (Takes Z 𝓛 𝓜.mem 𝓡.returns) (met.allocate drops) y
    (and_then ! (get ! refl) (and_then ! (get ! refl) (and_then ! (align_word !) (no_more !)))) (λ v.
    use1 𝓛 (later (raw (Answered Z 𝓛 𝓜.mem 𝓡.returns self.now τ v) ⊛ ‵ (flft κ q)))
    (Takes-gives Z 𝓛 𝓜.mem 𝓡.returns κ q self.ref_ptr self.now (len * s) al τ v) $ await ! tt $ split ! $ answers Z ! 𝓜.mem 𝓡.returns self.now τ v
    (λ b o e. let p : Ptr = block_ptr b o in lands_as ! e refl (Answer-typed true b o) $
    first ! $ switches_on ! (get_tag ! (vrt ! refl (fld ! refl (stop !))) (whole !)) $ exec ! 𝓣.C 𝓣.Λ Ev (arm_body 0 both) Then $
    sets ! (of_opd ! (get_in ! (vrt ! refl (fld ! refl (stop !))) (in_variant ! 0 0 refl refl (whole !)))) refl (tt, tt) $
    sets ! (of_opd ! (get ! refl)) refl (tt, tt) $ sets ! (agg ! (and_then ! (get ! refl) (no_more !))) refl (word-Good [] p) $
    sets_last ! (agg ! (and_then ! (lit ! tt) (and_then ! (get ! refl) (no_more !)))) refl (typed p) $ exec ! 𝓣.C 𝓣.Λ Ev (after 6 fn.body) (at_ret Ev Post) $
    sets ! (of_opd ! (get ! refl)) refl (typed p) $
    returns ! (look_at ! 0 refl) $ free_all ! refl $ as_written ! (ty_array (elτ E) len) b o $ cut E ! len b o $ move ! (1 ∷ []) $
    rewrite ! 0 (λ (F : Fml). ‵ F) (sym (sized s (token Z self.now τ p) (λ none. is_not (capped s) 0 some (ap capped none)))) refl $
    made E Z ! self.now b o len small $ out
    (Ok (empty E Z p len self.now)) (live 0 (vcons (word p) vnil)) (refl, refl))
    (λ e. let Refusal = Struct (Declared.shape AE.the_type) in
    let none : Val = live 1 (vcons (vstruct vnil) vnil) in lands_as ! e refl (Answer-typed false 0 0) $
    first ! $ switches_on ! (get_tag ! (vrt ! refl (fld ! refl (stop !))) (whole !)) $ exec ! 𝓣.C 𝓣.Λ Ev (arm_body 1 both) Then $
    sets ! (of_opd ! (get_in ! (vrt ! refl (fld ! refl (stop !))) (in_variant ! 1 0 refl refl (whole !)))) refl (tt, tt) $
    sets_last ! (agg ! (and_then ! (lit ! tt) (and_then ! (get ! refl) (no_more !)))) refl (tt, (record { fits = lit< tt }, (tt, tt))) $ exec ! 𝓣.C 𝓣.Λ Ev
    (after 6 fn.body) (at_ret Ev Post) $ sets ! (of_opd ! (get ! refl)) refl (tt, (record { fits = lit< tt }, (tt, tt))) $ returns ! (look_at ! 0 refl) $
    free_all ! refl $
    owned ! Refusal (Is Refusal) (Struct-Makes 𝓛 (Declared.shape AE.the_type) tt) tt (vstruct vnil ∷ []) (tt, (refl, tt)) $ use1 𝓛
    (‵ ((Out E Z).own_val (Err (record {})) (none ∷ []))) (err_of 𝓛 (Pr E Z) AE.the_row (record {}) (vstruct vnil)) $ out (Err (record {})) none tt)))))))
