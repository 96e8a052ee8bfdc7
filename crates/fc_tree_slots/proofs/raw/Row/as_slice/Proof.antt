-- `as_slice` shows the items of the first places.
use Rattle.fc_tree_slots.proofs.Steps.{Al, ◌≡◌, ◌+◌, ◌*◌, [], ◌∷◌, ◌++◌, Some, refl, inst_fn, emp}
use Rattle.fc_tree_slots.proofs.Steps.{ftrue, flft, ◌⊑◌, fact, fact_i, tables, WpFn, ‵, raw, ◌⊛◌, prop}
use Rattle.fc_tree_slots.proofs.Steps.{at_ret, ◌$◌, ◌∵◌, !, qed, by, move, drop, use0, split, join, regoal, fsplit, fjoin, feq_i, enter, stop, fld, of_opd}
use Rattle.fc_tree_slots.proofs.Steps.{first, blocks, exec, returns, alloc_all, pass_all, free_all, look_at, get, through, sets, sets_last, env, owns, types_at}
use Rattle.fc_tree_slots.proofs.Steps.{nothing, heard, Stays, stay_dropped, walk_of, Goes-dropped, param_at, List, Val, load, look, hide, agg, and_then}
use Rattle.fc_tree_slots.proofs.Steps.{no_more, flt_i, map, length, subst, w64, vint, ap, ◌∙◌, ◌^◌, ◌<◌, proved_at, leaves, after, El, R, args, keep}
use Rattle.fc_tree_slots.specs.Cells.{ArePresent}
use Rattle.std.specs.Mem.{type_size}
use lib.ListN.{take}
use denote.Slice.{slice_val}
use Rattle.std_alloc.proofs.Words.{pointer_out}
use denote.RawPtr.{block_ptr}
use Rattle.fc_tree_slots.proofs.Memory.{run_seen}
use Rattle.fc_tree_slots.proofs.Opening.{look_row, look_start}
use Rattle.fc_tree_slots.specs.contracts.raw.Row.as_slice as f
use Rattle.fc_tree_slots.proofs.raw.Row.as_slice.Statement.{statement}
use Rattle.fc_tree_slots.proofs.raw.Row.as_slice.Code as code

pub as_slice_spec : {M : Type 1} → statement M
as_slice_spec 𝓤 𝓛 𝓜 𝓡 wired T Y L LY g dict drops met gone =
    let E : El = record { row = T; laws = L } in let Z : Al = record { row = Y; laws = LY; g = g; d = dict; drops = drops } in
    let fn = inst_fn (args E Z) code.function in
    let En = f.ended T Y g dict drops in let ps = En.signature.params in let c = f.clauses T Y g dict drops 𝓛 𝓜.mem 𝓡.returns in let 𝓣 =
    tables 𝓤 𝓛.H 𝓜 𝓡 𝓡.env in
    let hs : Stays ps En.kept = (stay_dropped _ _, (stay_dropped _ _, tt)) in
    proved_at 𝓛 En hs c 𝓜 𝓡 (Goes-dropped 𝓛 3 (param_at 0 ps) En.kept.0 (λ κs x f. refl), (Goes-dropped 𝓛 3 (param_at 1 ps) En.kept.1.0 (λ κs x f. refl), tt))
    (f.Key.name (args E Z)) fn (code.unfolded 𝓤 𝓛.H 𝓜 𝓡 wired (T, (Y, tt)) dict drops) (λ z are.
    let κ = z.0.0.0 in let r = z.0.3.0 in let rb = r.ref_ptr.0 in let ro = r.ref_ptr.1 in let d = r.now in let len = z.0.3.1.0 in
    let Post = (walk_of 𝓛 En hs c).post z in
    let Asks = ArePresent d.held len in
    qed 𝓛 (((‵ (flft κ z.0.1.0) ⊛ ‵ (flft z.0.0.1.0 z.0.1.1.0) ⊛ ‵ (flft z.0.0.1.1.0 z.0.1.1.1.0) ⊛ ‵ ftrue) ⊛ ‵ (owns (types_at ps z.0.0) z.0.3 z.0.4))
    ∷ (raw (fact 𝓤 (z.0.0.1.0 ⊑ T.lives)) ⊛ raw (fact 𝓤 (z.0.0.1.1.0 ⊑ Y.lives)) ⊛ raw (fact 𝓤 Asks)) ∷ []) ∵
    move ! (1 ∷ []) $ split ! $ drop ! $ split ! $ drop ! $ heard ! Asks (λ asked. split ! $ split ! $ move ! (2 ∷ []) $ fsplit ! $ fsplit ! $ drop ! $
    look_row E Z κ rb ro ! d $
    let xs = asked.0 in let long = asked.2 in let fits : length xs < 2 ^ 64 = subst (λ n. n < 2 ^ 64) long are.1.0.1 in
    run_seen (R E) ! κ d.start d.held len xs asked.1 (λ b o e small. keep ! (0 ∷ 1 ∷ 3 ∷ 4 ∷ []) $ hide ! $
    regoal ! (λ us. prop (WpFn 𝓤 𝓛.H 𝓣.C 𝓣.Λ fn us Post)) (λ j. are.0.0 j ++ ((are.1.0.0 ∙ ap (λ n. vint w64 n ∷ []) long) j ++ [])) refl $
    enter ! _ _ _ _ _ $ alloc_all ! (λ l. pass_all ! refl ((tt, tt), ((tt, record { fits = fits }), tt)) $ move ! (1 ∷ 2 ∷ []) $
    look_start E Z κ rb ro ! tt d.start b o e (λ q'.
    first ! $ blocks ! $ sets ! (of_opd ! (load ! (through ! refl (fld ! refl (stop !))) (look ! 1 refl))) refl (tt, tt) $
    pointer_out ! tt (block_ptr b o) tt rb (ro + 0) $ sets ! (of_opd ! (get ! refl)) refl (tt, tt) $
    sets_last ! (agg ! (and_then ! (get ! refl) (and_then ! (get ! refl) (no_more !)))) refl (tt, (tt, (record { fits = fits }, tt))) $ exec ! 𝓣.C 𝓣.Λ
    (env fn.locals l) (after 1 fn.body) (at_ret _ Post) $ sets ! (of_opd ! (get ! refl)) refl (tt, (tt, (record { fits = fits }, tt))) $
    -- [the token of the `&`; its fields; the items; the other token; the locals]
    returns ! (look_at ! 0 refl) $ free_all ! refl $ keep ! (0 ∷ 3 ∷ 2 ∷ []) $ join ! $ move ! (1 ∷ []) $ let v = slice_val (b, o) (length xs) in
    flt_i ! (length xs * type_size (R E)) (2 ^ 63) small $ flt_i ! (length xs) (2 ^ 64) fits $ fjoin ! $ feq_i ! (List Val) (v ∷ []) (v ∷ []) refl $ fjoin ! $
    fjoin ! $
    use0 𝓛 (raw (fact 𝓤 (take len d.held ≡ map Some xs))) (fact_i 𝓤 _ (emp 𝓤) asked.1) $ nothing ! $ nothing ! $ fjoin ! $ nothing ! $ fjoin ! $
    move ! (3 ∷ 0 ∷ 2 ∷ 1 ∷ []) $
    by ! (leaves 𝓛 En hs c z v (record { ref_ptr = (b, o); now = xs }) (tt, (tt, tt)) (tt, (tt, tt))))))))
