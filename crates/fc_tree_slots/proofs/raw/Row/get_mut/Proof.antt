-- `get_mut` lends the item, and the row follows it.
use Rattle.fc_tree_slots.proofs.Steps.{Al, ◌≡◌, ◌+◌, ◌*◌, [], ◌∷◌, ◌++◌, get_or, Some, None}
use Rattle.fc_tree_slots.proofs.Steps.{refl, vptr, inst_fn, emp, ftrue, flft, ◌⊑◌, fact, fact_i, tables, WpFn}
use Rattle.fc_tree_slots.proofs.Steps.{‵, raw, ◌⊛◌, prop, at_ret, ◌$◌, ◌∵◌, !, qed, by, move, drop, use0, split, join, rewrite, regoal, fsplit, fjoin, whole}
use Rattle.fc_tree_slots.proofs.Steps.{sub, enter, stop, fld, of_opd, bin, size_lit, first, blocks, exec, returns, alloc_all, pass_all, free_all, look_at, get}
use Rattle.fc_tree_slots.proofs.Steps.{through, sets, sets_last, env, owns, types_at, nothing, heard, Stays, stay_dropped, walk_of, Goes-dropped, param_at}
use Rattle.fc_tree_slots.proofs.Steps.{Goes-spent_ref, plain, Logic, addr, named, GName, done, later, some, await, pick, group, use1, split3, ent, sem}
use Rattle.fc_tree_slots.proofs.Steps.{block_ptr, Ura, ◌<◌, ℕ, length, fsplit3, load, look_in, proved_at, leaves, after, El, R, args, keep}
use Rattle.fc_tree_slots.specs.Cells.{IsPresent}
use Rattle.std.specs.Mem.{type_size}
use Rattle.fc_tree_slots.specs.Ownership.{place}
use base.Logic.{sep}
use denote.Follow.{follows, lends_Part}
use denote.Memory.{mem}
use denote.Ref.{MutRef}
use Rattle.fc_tree_slots.specs.declared.raw.Row.{Row}
use Rattle.fc_tree_slots.specs.Lends.{with_place}
use Rattle.fc_tree_slots.proofs.Memory.{inside}
use Rattle.fc_tree_slots.proofs.Opening.{Pr, Kept, open_row, row_back}
use Rattle.fc_tree_slots.specs.contracts.raw.Row.get_mut as f
use Rattle.fc_tree_slots.proofs.raw.Row.get_mut.Statement.{statement}
use Rattle.fc_tree_slots.proofs.raw.Row.get_mut.Code as code

module _ (E : El) (Z : Al) (d : Row E.row.Denot Z.row.Denot) (i rb ro b o : ℕ) {M : Type 1} {𝓤 : Ura M} (𝓛 : Logic 𝓤) where
  -- what the borrow's end makes of the item's last value
  back : d.start ≡ block_ptr b o → i < length d.held → (w : E.row.Denot)
      → ent 𝓤 (sep 𝓤 (sem 𝓛 ((mem (R E)).own_at w b (i * type_size (R E) + o))) (sem 𝓛 (Kept E Z d.alloc rb ro b o d.held i)))
      (sem 𝓛 ((mem (Pr E Z)).own_at (with_place d i (Some w)) rb ro))
  back e lt w = qed 𝓛 (‵ (place (R E) b (i * type_size (R E) + o) (Some w)) ∷ ‵ (Kept E Z d.alloc rb ro b o d.held i) ∷ []) ∵
      row_back E Z d i rb ro ! b o e lt (Some w) $
      done !

pub get_mut_spec : {M : Type 1} → statement M
get_mut_spec 𝓤 𝓛 𝓜 𝓡 wired T Y L LY g dict drops met gone =
    let E : El = record { row = T; laws = L } in let Z : Al = record { row = Y; laws = LY; g = g; d = dict; drops = drops } in
    let fn = inst_fn (args E Z) code.function in
    let En = f.ended T Y g dict drops in let ps = En.signature.params in let c = f.clauses T Y g dict drops 𝓛 𝓜.mem 𝓡.returns in let 𝓣 =
    tables 𝓤 𝓛.H 𝓜 𝓡 𝓡.env in
    let hs : Stays ps En.kept = (stay_dropped _ _, (stay_dropped _ _, tt)) in
    proved_at 𝓛 En hs c 𝓜 𝓡 (Goes-spent_ref 𝓛 3 (0 ∷ []) tt (plain (λ _. Pr E Z)), (Goes-dropped 𝓛 3 (param_at 1 ps) En.kept.1.0 (λ κs x f. refl), tt))
    (f.Key.name (args E Z)) fn (code.unfolded 𝓤 𝓛.H 𝓜 𝓡 wired (T, (Y, tt)) dict drops) (λ z are.
    let κ = z.0.0.0 in let q = z.0.1.0 in let r = z.0.3.0 in let rb = r.ref_ptr.0 in let ro = r.ref_ptr.1 in let d = r.now in let i = z.0.3.1.0 in
    let Post = (walk_of 𝓛 En hs c).post z in
    let Asks = IsPresent d.held i in
    qed 𝓛 (((‵ (flft κ q) ⊛ ‵ (flft z.0.0.1.0 z.0.1.1.0) ⊛ ‵ (flft z.0.0.1.1.0 z.0.1.1.1.0) ⊛ ‵ ftrue) ⊛ ‵ (owns (types_at ps z.0.0) z.0.3 z.0.4))
    ∷ (raw (fact 𝓤 (z.0.0.1.0 ⊑ T.lives)) ⊛ raw (fact 𝓤 (z.0.0.1.1.0 ⊑ Y.lives)) ⊛ raw (fact 𝓤 Asks)) ∷ []) ∵
    move ! (1 ∷ []) $ split ! $ drop ! $ split ! $ drop ! $ heard ! Asks (λ asked. split ! $ split ! $ move ! (2 ∷ []) $ fsplit ! $ fsplit3 ! $
    keep ! (1 ∷ 2 ∷ 4 ∷ 5 ∷ []) $
    let x = asked.0 in let lt = inside d.held i x asked.1 in
    regoal ! (λ us. prop (WpFn 𝓤 𝓛.H 𝓣.C 𝓣.Λ fn us Post)) (λ j. are.0.0 j ++ (are.1.0.0 j ++ [])) refl $
    enter ! _ _ _ _ _ $ alloc_all ! (λ l. pass_all ! refl ((tt, tt), ((tt, record { fits = are.1.0.1 }), tt)) $
    open_row E Z d i rb ro ! tt lt (λ b o e fits. let at = i * type_size (R E) + o in
    rewrite ! 0 (λ y. ‵ (place (R E) b at y)) asked.1 refl $ first ! $ blocks ! $
    sets ! (of_opd ! (load ! (through ! refl (fld ! refl (stop !))) (look_in ! 1 (sub ! 0 refl (whole !))))) refl (tt, tt) $
    sets ! (of_opd ! (get ! refl)) refl (tt, tt) $
    sets ! (bin ! (get ! refl) (size_lit ! (record { fits = fits.0 })) (record { fits = fits.1 })) refl (tt, record { fits = fits.1 }) $
    sets ! (bin ! (get ! refl) (get ! refl) tt) refl (tt, tt) $ sets_last ! (addr ! (through ! refl (stop !))) refl (tt, tt) $ exec ! 𝓣.C 𝓣.Λ (env fn.locals l)
    (after 1 fn.body) (at_ret _ Post) $ sets ! (of_opd ! (get ! refl)) refl (tt, tt) $
    -- [the item; the row, in five entries; the other token]
    move ! (1 ∷ 2 ∷ []) $ fjoin ! $ move ! (2 ∷ 3 ∷ 4 ∷ 1 ∷ 0 ∷ []) $ group ! 5 $ let F = λ (w : T.Denot). with_place d i (Some w) in
    let Rests = sem 𝓛 (Kept E Z d.alloc rb ro b o d.held i) in let code_is = (Pr E Z).coded.code d in
    use1 𝓛 (later (some (λ (δ : GName). ‵ ((MutRef (named 0) κ (R E)).own_val (record { ref_ptr = (b, at); ghost_name = δ; now = x }) (vptr b at ∷ []))
    ⊛ ‵ (flft κ q) ⊛ ‵ (follows (Pr E Z) (R E) r.ghost_name δ F))))
    (lends_Part 𝓛 (Pr E Z) (R E) F (named 0) κ q rb ro b at r.ghost_name Rests (back E Z d i rb ro b o 𝓛 e lt) code_is code_is x) $ await ! tt $
    pick ! (λ δ. split3 ! $
    returns ! (look_at ! 0 refl) $ free_all ! refl $ move ! (1 ∷ 3 ∷ []) $ join ! $
    use0 𝓛 (raw (fact 𝓤 (get_or d.held i None ≡ Some x))) (fact_i 𝓤 _ (emp 𝓤) asked.1) $ move ! (3 ∷ 0 ∷ []) $ join ! $
    nothing ! $ nothing ! $ fjoin ! $ nothing ! $ fjoin ! $ move ! (2 ∷ 0 ∷ 3 ∷ 1 ∷ []) $
    by ! (leaves 𝓛 En hs c z (vptr b at) (record { ref_ptr = (b, at); ghost_name = δ; now = x }) (tt, (tt, tt)) (tt, (tt, tt))))))))
