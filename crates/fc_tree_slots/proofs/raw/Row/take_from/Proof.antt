-- `take` reads the item, and its place is room.
use Rattle.fc_tree_slots.proofs.Steps.{Al, ◌∙◌, fat, full_share, ◌≡◌, ◌+◌, ◌*◌, [], ◌∷◌, ◌++◌}
use Rattle.fc_tree_slots.proofs.Steps.{get_or, Some, None, refl, vptr, inst_fn, emp, ftrue, flft, ◌⊑◌, fact}
use Rattle.fc_tree_slots.proofs.Steps.{fact_i, tables, WpFn, ‵, raw, ◌⊛◌, prop, at_ret, ◌$◌, ◌∵◌, !, qed, by, move, drop, use0, split, join, rewrite, regoal}
use Rattle.fc_tree_slots.proofs.Steps.{fsplit, fjoin, feq_i, enter, stop, of_opd, bin, size_lit, first, blocks, exec, returns, alloc_all, pass_all, free_all}
use Rattle.fc_tree_slots.proofs.Steps.{look_at, get, through, sets, sets_last, env, owns, types_at, nothing, heard, Stays, stay_dropped, walk_of, Goes-dropped}
use Rattle.fc_tree_slots.proofs.Steps.{param_at, List, Val, stay_ref, Goes-ref, plain, fsplit3, fjoin3, load, look, set, proved_at, leaves, after, El, R, args}
use Rattle.fc_tree_slots.proofs.Steps.{keep}
use denote.RawPtr.{ptr_val}
use mir.Syntax.{ty_ptr}
use Rattle.fc_tree_slots.specs.Cells.{IsPresent}
use Rattle.std.specs.Mem.{type_size}
use Rattle.fc_tree_slots.specs.Ownership.{place}
use Rattle.fc_tree_slots.specs.Lends.{with_place}
use Rattle.fc_tree_slots.proofs.Memory.{inside, value_out, emptied}
use Rattle.fc_tree_slots.proofs.Opening.{pointer_typed, Pr, open_row, shut_row}
use Rattle.fc_tree_slots.specs.contracts.raw.Row.take_from as f
use Rattle.fc_tree_slots.proofs.raw.Row.take_from.Statement.{statement}
use Rattle.fc_tree_slots.proofs.raw.Row.take_from.Code as code

pub take_from_spec : {M : Type 1} → statement M
take_from_spec 𝓤 𝓛 𝓜 𝓡 wired T Y L LY g dict drops met gone =
    let E : El = record { row = T; laws = L } in let Z : Al = record { row = Y; laws = LY; g = g; d = dict; drops = drops } in
    let fn = inst_fn (args E Z) code.function in
    let En = f.ended T Y g dict drops in let ps = En.signature.params in let c = f.clauses T Y g dict drops 𝓛 𝓜.mem 𝓡.returns in let 𝓣 =
    tables 𝓤 𝓛.H 𝓜 𝓡 𝓡.env in
    let hs : Stays ps En.kept = (stay_ref (0 ∷ []) tt (plain (λ _. Pr E Z)), (stay_dropped _ _, (stay_dropped _ _, tt))) in
    proved_at 𝓛 En hs c 𝓜 𝓡 (
      Goes-ref 𝓛 3 0 tt (plain (λ _. Pr E Z)),
      (
        Goes-dropped 𝓛 3 (param_at 1 ps) En.kept.1.0 (λ κs x f. refl),
        (Goes-dropped 𝓛 3 (param_at 2 ps) En.kept.1.1.0 (λ κs x f. refl), tt),
      ),
    )
    (f.Key.name (args E Z)) fn (code.unfolded 𝓤 𝓛.H 𝓜 𝓡 wired (T, (Y, tt)) dict drops) (λ z are.
    let κ = z.0.0.0 in let r = z.0.3.0 in let rb = r.ref_ptr.0 in let ro = r.ref_ptr.1 in let d = r.now in let p = z.0.3.1.0 in
    let i = z.0.3.1.1.0 in let Post = (walk_of 𝓛 En hs c).post z in
    let Asks = (p ≡ d.start) × IsPresent d.held i in
    qed 𝓛 (((‵ (flft κ z.0.1.0) ⊛ ‵ (flft z.0.0.1.0 z.0.1.1.0) ⊛ ‵ (flft z.0.0.1.1.0 z.0.1.1.1.0) ⊛ ‵ ftrue) ⊛ ‵ (owns (types_at ps z.0.0) z.0.3 z.0.4))
    ∷ (raw (fact 𝓤 (z.0.0.1.0 ⊑ T.lives)) ⊛ raw (fact 𝓤 (z.0.0.1.1.0 ⊑ Y.lives)) ⊛ raw (fact 𝓤 Asks)) ∷ []) ∵
    move ! (1 ∷ []) $ split ! $ drop ! $ split ! $ drop ! $ heard ! Asks (λ asked. split ! $ split ! $ move ! (2 ∷ []) $ fsplit ! $ fsplit3 ! $
    keep ! (1 ∷ 2 ∷ 4 ∷ 5 ∷ []) $
    let x = asked.1.0 in let lt = inside d.held i x asked.1.1 in
    regoal ! (λ us. prop (WpFn 𝓤 𝓛.H 𝓣.C 𝓣.Λ fn us Post)) (λ j. are.0.0 j ++ (are.1.0 j ++ (are.1.1.0.0 j ++ []))) refl $
    enter ! _ _ _ _ _ $ alloc_all ! (λ l. pass_all ! refl ((tt, tt), (pointer_typed p, ((tt, record { fits = are.1.1.0.1 }), tt))) $
    open_row E Z d i rb ro ! tt lt (λ b o e fits. let at = i * type_size (R E) + o in
    rewrite ! 15 (λ y. ‵ (fat full_share ty_ptr (l 2) 0 (ptr_val y))) (asked.0 ∙ e) refl $
    rewrite ! 0 (λ y. ‵ (place (R E) b at y)) asked.1.1 refl $ value_out E ! x b at (λ v ok. first ! $ blocks ! $
    sets ! (bin ! (get ! refl) (size_lit ! (record { fits = fits.0 })) (record { fits = fits.1 })) refl (tt, record { fits = fits.1 }) $
    sets ! (bin ! (get ! refl) (get ! refl) tt) refl (tt, tt) $ sets_last ! (of_opd ! (load ! (through ! refl (stop !)) (look ! 0 refl))) refl ok $ exec ! 𝓣.C
    𝓣.Λ (env fn.locals l) (after 1 fn.body) (at_ret _ Post) $ sets ! (of_opd ! (get ! refl)) refl ok $
    -- [the item's bytes; what it owns; the row, in five entries; the other token]
    emptied E ! b at v $ move ! (0 ∷ 2 ∷ 3 ∷ 4 ∷ 5 ∷ 6 ∷ []) $ shut_row E Z d i rb ro ! tt b o e lt None $
    returns ! (look_at ! 0 refl) $ free_all ! refl $ feq_i ! (List Val) z.0.4.0 (vptr rb ro ∷ []) are.0.0 $ fjoin3 ! $
    nothing ! $ nothing ! $ fjoin ! $ nothing ! $ fjoin ! $ move ! (1 ∷ 0 ∷ []) $ fjoin ! $ move ! (1 ∷ 3 ∷ []) $ join ! $
    let new = with_place d i None in let gives = (get_or d.held i None ≡ Some x) × (new.held ≡ set d.held i None) × (new.start ≡ d.start)
    × (new.alloc ≡ d.alloc) in
    use0 𝓛 (raw (fact 𝓤 gives)) (fact_i 𝓤 gives (emp 𝓤) (asked.1.1, refl, refl, refl)) $ move ! (1 ∷ 2 ∷ 3 ∷ 0 ∷ []) $
    by ! (leaves 𝓛 En hs c z v x (new, (tt, (tt, tt))) (tt, (tt, (tt, tt)))))))))
