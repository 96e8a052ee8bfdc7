-- `start` reads the pointer.
use Rattle.fc_tree_slots.proofs.Steps.{get, Al, ◌≡◌, ◌+◌, [], ◌∷◌, ◌++◌, refl, sym, vptr, inst_fn}
use Rattle.fc_tree_slots.proofs.Steps.{emp, ftrue, flft, ◌⊑◌, fact, fact_i, tables, WpFn, ‵, raw, ◌⊛◌, prop}
use Rattle.fc_tree_slots.proofs.Steps.{◌$◌, ◌∵◌, !, qed, by, move, drop, use0, split, join, regoal, fsplit, fjoin, feq_i, enter, stop, fld, of_opd, returns}
use Rattle.fc_tree_slots.proofs.Steps.{alloc_all, pass_all, free_all, look_at, through, sets, owns, types_at, nothing, Stays, stay_dropped, walk_of}
use Rattle.fc_tree_slots.proofs.Steps.{Goes-dropped, param_at, load, look, id⊢, never, proved_at, leaves, El, R, args, keep}
use Rattle.fc_tree_slots.specs.Ownership.{row_lent}
use Rattle.std_alloc.proofs.Words.{pointer_out}
use denote.RawPtr.{block_ptr, in_a_block}
use Rattle.fc_tree_slots.proofs.Opening.{look_row, look_start}
use Rattle.fc_tree_slots.specs.contracts.raw.Row.start as f
use Rattle.fc_tree_slots.proofs.raw.Row.start.Statement.{statement}
use Rattle.fc_tree_slots.proofs.raw.Row.start.Code as code

pub start_spec : {M : Type 1} → statement M
start_spec 𝓤 𝓛 𝓜 𝓡 wired T Y L LY g dict drops met gone =
    let E : El = record { row = T; laws = L } in let Z : Al = record { row = Y; laws = LY; g = g; d = dict; drops = drops } in
    let fn = inst_fn (args E Z) code.function in
    let En = f.ended T Y g dict drops in let ps = En.signature.params in let c = f.clauses T Y g dict drops 𝓛 𝓜.mem 𝓡.returns in let 𝓣 =
    tables 𝓤 𝓛.H 𝓜 𝓡 𝓡.env in
    let hs : Stays ps En.kept = (stay_dropped _ _, tt) in
    proved_at 𝓛 En hs c 𝓜 𝓡 (Goes-dropped 𝓛 3 (param_at 0 ps) En.kept.0 (λ κs x f. refl), tt)
    (f.Key.name (args E Z)) fn (code.unfolded 𝓤 𝓛.H 𝓜 𝓡 wired (T, (Y, tt)) dict drops) (λ z are.
    let κ = z.0.0.0 in let r = z.0.3.0 in let rb = r.ref_ptr.0 in let ro = r.ref_ptr.1 in let d = r.now in let Post = (walk_of 𝓛 En hs c).post z in
    qed 𝓛 (((‵ (flft κ z.0.1.0) ⊛ ‵ (flft z.0.0.1.0 z.0.1.1.0) ⊛ ‵ (flft z.0.0.1.1.0 z.0.1.1.1.0) ⊛ ‵ ftrue) ⊛ ‵ (owns (types_at ps z.0.0) z.0.3 z.0.4))
    ∷ (raw (fact 𝓤 (z.0.0.1.0 ⊑ T.lives)) ⊛ raw (fact 𝓤 (z.0.0.1.1.0 ⊑ Y.lives)) ⊛ raw (emp 𝓤)) ∷ []) ∵
    move ! (1 ∷ []) $ drop ! $ split ! $ split ! $ move ! (2 ∷ []) $ fsplit ! $ fsplit ! $ drop ! $ look_row E Z κ rb ro ! d $
    in_a_block ! d.start (λ p. row_lent (R E) p d.held κ) (id⊢ 𝓤 (never 𝓤)) (λ b o e. keep ! (1 ∷ 3 ∷ 4 ∷ []) $
    regoal ! (λ us. prop (WpFn 𝓤 𝓛.H 𝓣.C 𝓣.Λ fn us Post)) (λ j. are.0.0 j ++ []) refl $
    enter ! _ _ _ _ _ $ alloc_all ! (λ l. pass_all ! refl ((tt, tt), tt) $
    look_start E Z κ rb ro ! tt d.start b o e (λ q'.
    sets ! (of_opd ! (load ! (through ! refl (fld ! refl (stop !))) (look ! 1 refl))) refl (tt, tt) $
    pointer_out ! tt (block_ptr b o) tt rb (ro + 0) $ sets ! (of_opd ! (get ! refl)) refl (tt, tt) $
    -- [the token of the `&`; its fields; the other token; the locals]
    returns ! (look_at ! 0 refl) $ free_all ! refl $ keep ! (0 ∷ 2 ∷ []) $ join ! $ feq_i ! _ (vptr b o ∷ []) _ refl $
    use0 𝓛 (raw (fact 𝓤 (block_ptr b o ≡ d.start))) (fact_i 𝓤 _ (emp 𝓤) (sym e)) $ nothing ! $ nothing ! $ fjoin ! $ move ! (3 ∷ 0 ∷ 2 ∷ 1 ∷ []) $
    by ! (leaves 𝓛 En hs c z (vptr b o) (block_ptr b o) (tt, tt) (tt, tt))))))
