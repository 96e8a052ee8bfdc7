-- `free` makes room of the empty places, and gives it back by the row's token.
use Rattle.fc_tree_slots.proofs.Steps.{Al, token, ◌≡◌, ◌*◌, ◌^◌, ◌<◌, List, [], ◌∷◌, ◌++◌}
use Rattle.fc_tree_slots.proofs.Steps.{replicate, None, sym, ap, ◌∙◌, subst, arith, refl, w64, length-replicate, Val}
use Rattle.fc_tree_slots.proofs.Steps.{vint, vunit, vstruct, of_list, inst_fn, never, id⊢, ftrue, Fml, flft, ◌⊑◌, fact, tables, WpFn, ‵, raw, prop, at_ret, ◌⊛◌}
use Rattle.fc_tree_slots.proofs.Steps.{◌$◌, ◌∵◌, !, qed, by, move, keep, drop, use1, split, join, group, rewrite, regoal, fsplit, fjoin, feq_i, flt_l, whole}
use Rattle.fc_tree_slots.proofs.Steps.{sub, enter, stop, fld, of_opd, lit, unit_lit, bin, size_word, align_word, and_then, no_more, first, blocks, exec}
use Rattle.fc_tree_slots.proofs.Steps.{returns, alloc_all, pass_all, free_all, look_at, get, get_in, sets, is, env, owns, block_ptr, in_a_block, types_at}
use Rattle.fc_tree_slots.proofs.Steps.{nothing, heard, Stays, stay_dropped, walk_of, Goes-dropped, proved_at, leaves, word, after, El, R, elτ, args, param_at}
use lib.Dec.{T}
use Rattle.std.specs.Prelude.{Option}
use mir.Syntax.{ty_unit, ty_array}
use mir.Val.{has_ty, WT}
use prog.Memory.{align, capped}
use prog.Capped.{capped_fits}
use types.Kit.{Sq}
use types.Run.{branches, skips}
use types.ByLocal.{lands_last}
use denote.Triple.Call.{calls_at_last}
use Rattle.std.specs.Mem.{type_size}
use Rattle.core.proofs.alloc.Calls.{Goes-blank}
use Rattle.core.proofs.atomic.Steps.{fm}
use Rattle.core.proofs.slots.Leases.{uncapped, block_ty, block_size, block_align}
use Rattle.std_alloc.proofs.RawLayout.{as_raw}
use Rattle.std_alloc.proofs.RcSteps.{is_not}
use Rattle.core.proofs.alloc.Calls.{Gives, at_gives, Gives-goes, Gives-Gives}
use base.Fml.{Incl-trans}
use types.Kit.{given, later, await, learn}
use Rattle.fc_tree_slots.specs.Ownership.{row_owned}
use Rattle.fc_tree_slots.proofs.Memory.{glued, sized}
use Rattle.fc_tree_slots.specs.contracts.raw.Row.free as f
use Rattle.fc_tree_slots.proofs.raw.Row.free.Statement.{statement}
use Rattle.fc_tree_slots.proofs.raw.Row.free.Code as code

pub free_spec : {M : Type 1} → statement M
free_spec 𝓤 𝓛 𝓜 𝓡 wired X Y L LY g dict drops met gone =
    let E : El = record { row = X; laws = L } in let Z : Al = record { row = Y; laws = LY; g = g; d = dict; drops = drops } in
    let fn = inst_fn (args E Z) code.function in
    let En = f.ended X Y g dict drops in let ps = En.signature.params in let ks = En.kept in let c = f.clauses X Y g dict drops 𝓛 𝓜.mem 𝓡.returns in let 𝓣 =
    tables 𝓤 𝓛.H 𝓜 𝓡 𝓡.env in
    let hs : Stays ps ks = (stay_dropped _ _, (stay_dropped _ _, (stay_dropped _ _, tt))) in
    proved_at 𝓛 En hs c 𝓜 𝓡 (
      Goes-blank 𝓛 3 (param_at 0 ps) ks.0 (λ κs x f. tt),
      (Goes-dropped 𝓛 3 (param_at 1 ps) ks.1.0 (λ κs x f. refl), (Goes-dropped 𝓛 3 (param_at 2 ps) ks.1.1.0 (λ κs x f. refl), tt)),
    )
    (f.Key.name (args E Z)) fn (code.unfolded 𝓤 𝓛.H 𝓜 𝓡 wired (X, (Y, tt)) dict drops) (λ z are.
    let κ = z.0.0.0 in let κ₁ = z.0.0.1.0 in let κ₂ = z.0.0.1.1.0 in let q = z.0.1.0 in let d = z.0.3.0 in let self = z.0.3.1.0 in let len = z.0.3.1.1.0 in
    let Post = (walk_of 𝓛 En hs c).post z in let others = ‵ (flft κ₁ z.0.1.1.0) ⊛ ‵ (flft κ₂ z.0.1.1.1.0) ⊛ ‵ ftrue in let s = type_size (R E) in
    let Asks = (d.held ≡ replicate len None) × (d.alloc ≡ self.now) in
    let word_is : z.0.4.0 ≡ word d.start ∷ [] = let told = are.0.0 in told.1.0 ∙ (λ j. vstruct (of_list (told.1.1.0 j ++ [])) ∷ []) in
    let out : Sq 𝓛 (‵ (flft κ q) ∷ others ∷ []) (prop (Post vunit)) = join ! $ nothing ! $ feq_i ! (List Val) (vunit ∷ []) (vunit ∷ []) refl $
    nothing ! $ nothing ! $ fjoin ! $ nothing ! $ fjoin ! $ nothing ! $ fjoin ! $ move ! (3 ∷ 0 ∷ 1 ∷ 2 ∷ []) $
    by ! (leaves 𝓛 En hs c z vunit tt (tt, (tt, (tt, tt))) (tt, (tt, (tt, tt)))) in
    qed 𝓛 (((‵ (flft κ q) ⊛ others) ⊛ ‵ (owns (types_at ps z.0.0) z.0.3 z.0.4))
    ∷ (raw (fact 𝓤 (κ₁ ⊑ X.lives)) ⊛ raw (fact 𝓤 (κ₂ ⊑ Y.lives)) ⊛ raw (fact 𝓤 Asks)) ∷ []) ∵
    move ! (1 ∷ []) $ split ! $ drop ! $ split ! $ heard ! (κ₂ ⊑ Y.lives)
    (λ in_alloc. heard ! Asks (λ asked. split ! $ split ! $ move ! (2 ∷ []) $ fsplit ! $ fsplit ! $ drop ! $
    move ! (1 ∷ []) $ fsplit ! $ fsplit ! $ keep ! (3 ∷ 1 ∷ 4 ∷ 5 ∷ []) $
    rewrite ! 0 (λ (c : Z.row.Denot × List (Option X.Denot)). ‵ (row_owned (R E) (token Z c.0) d.start c.1)) (λ j. (asked.1 j, asked.0 j)) refl $
    in_a_block ! d.start (λ p. row_owned (R E) (token Z self.now) p (replicate len None)) (id⊢ 𝓤 (never 𝓤)) (λ b o e. fsplit ! $ fsplit ! $ flt_l ! (λ fit.
    let small : len * s < 2 ^ 63 = subst (λ n. n * s < 2 ^ 63) (length-replicate len None) fit in let bytes : len * s < 2 ^ 64 = omega arith in
    regoal ! (λ us. prop (WpFn 𝓤 𝓛.H 𝓣.C 𝓣.Λ fn us Post)) (λ j. (word_is ∙ ap (λ p. word p ∷ []) e) j ++ (are.1.0.0 j ++ (are.1.1.0.0 j ++ []))) refl $
    enter ! _ _ _ _ _ $ alloc_all ! (λ l. pass_all ! refl ((tt, (tt, tt)), ((tt, tt), ((tt, record { fits = are.1.1.0.1 }), tt))) $ let Ev = env fn.locals l in
    sets ! (of_opd ! (get_in ! (fld ! refl (stop !)) (sub ! 0 refl (whole !)))) refl (tt, tt) $ sets ! (of_opd ! (size_word !)) refl
    (tt, record { fits = capped_fits s }) $ sets ! (bin ! (get ! refl) (lit ! tt) tt) refl (tt, tt) $ first ! $ branches ! (get ! refl)
    (λ some. let τ = block_ty E len in let al = capped (align (elτ E)) in let y = at_gives Z 𝓛 𝓜.mem 𝓡.returns κ q self.ref_ptr self.now b o (len * s) al τ in
    rewrite ! 0 (λ (F : Fml). ‵ F) (sized s _ (λ none. is_not (capped s) 0 some (ap capped none))) refl $ rewrite ! 0
    (λ n. ‵ (token Z self.now (block_ty E n) (block_ptr b o))) (length-replicate len None) refl $
    move ! (1 ∷ 0 ∷ []) $ glued E ! len b o $ as_raw ! (ty_array (elτ E) len) b o $
    blocks ! $ sets ! (of_opd ! (get ! refl)) refl (tt, tt) $
    sets ! (is ! (bin ! (get ! refl) (get ! refl) (record { fits = subst (λ k. k < 2 ^ 64) (sym (uncapped len s bytes)) bytes }))
    (ap (vint w64) (uncapped len s bytes))) refl (tt, record { fits = bytes }) $
    group ! 4 $ use1 𝓛 (raw ((Gives Z 𝓛 𝓜.mem 𝓡.returns).pre y)) (Gives-goes Z 𝓛 𝓜.mem 𝓡.returns κ q self.ref_ptr self.now (Incl-trans z.0.2.0 in_alloc) b o
    (len * s) al τ (block_size E len bytes) (block_align E len) bytes (capped_fits (align (elτ E)))) $
    calls_at_last ! (fm 𝓛 𝓜 𝓡) (Gives Z 𝓛 𝓜.mem 𝓡.returns) (met.deallocate drops) y
    (and_then ! (get ! refl) (and_then ! (get ! refl) (and_then ! (get ! refl) (and_then ! (align_word !) (no_more !))))) (λ v.
    use1 𝓛 (later (given (v ≡ vunit) (‵ (flft κ q)))) (Gives-Gives Z 𝓛 𝓜.mem 𝓡.returns κ q self.ref_ptr self.now b o (len * s) al τ v) $ await ! tt $
    learn ! (λ done_with.
    lands_last ! refl (subst (λ (w : Val). T (has_ty ty_unit w) × WT w) (sym done_with) (tt, tt)) $ exec ! 𝓣.C 𝓣.Λ Ev (after 4 fn.body) (at_ret Ev Post) $
    sets ! (of_opd ! (unit_lit !)) refl (tt, tt) $ returns ! (look_at ! 0 refl) $ free_all ! refl $ out)))
    (λ zero. skips ! $ exec ! 𝓣.C 𝓣.Λ Ev (after 4 fn.body) (at_ret Ev Post) $ drop ! $ drop ! $ drop ! $
    sets ! (of_opd ! (unit_lit !)) refl (tt, tt) $ returns ! (look_at ! 0 refl) $ free_all ! refl $ out)))))))
