-- `move_within` reads the item, whose place is room then, and writes it into the other place.
use Rattle.fc_tree_slots.proofs.Steps.{Al, token, ◌∙◌, fat, full_share, ◌≡◌, ◌+◌, ◌*◌, ◌<◌, [], ◌∷◌, ◌++◌}
use Rattle.fc_tree_slots.proofs.Steps.{get_or, Some, None, refl, sym, ap, arith, length, vptr, inst_fn, emp, ftrue, flft, ◌⊑◌, fact}
use Rattle.fc_tree_slots.proofs.Steps.{fact_i, tables, WpFn, ‵, raw, ◌⊛◌, prop, at_ret, ◌$◌, ◌∵◌, !, qed, by, move, drop, use0, split, join, rewrite, regoal}
use Rattle.fc_tree_slots.proofs.Steps.{fsplit, fjoin, feq_i, enter, stop, of_opd, bin, size_lit, first, blocks, exec, returns, alloc_all, pass_all, free_all}
use Rattle.fc_tree_slots.proofs.Steps.{look_at, get, through, sets, env, owns, types_at, nothing, heard, Stays, stay_dropped, walk_of, Goes-dropped}
use Rattle.fc_tree_slots.proofs.Steps.{param_at, List, Val, stay_ref, Goes-ref, plain, fsplit3, fjoin3, load, look, set, proved_at, leaves, after, El, R}
use Rattle.fc_tree_slots.proofs.Steps.{elτ, args, keep, init, assigns_last, vunit, unit_lit, ◌^◌, ℕ, length-set}
use Rattle.std_alloc.proofs.RawLayout.{as_written}
use Rattle.core.proofs.ptr.Rows.{times_below, add_times}
use denote.RawPtr.{ptr_val}
use mir.Syntax.{ty_ptr}
use Rattle.fc_tree_slots.specs.Cells.{IsPresent}
use Rattle.std.specs.Mem.{type_size}
use Rattle.fc_tree_slots.specs.Ownership.{place}
use Rattle.fc_tree_slots.specs.Lends.{with_place}
use Rattle.fc_tree_slots.proofs.Memory.{inside, value_out, emptied, value_in, bound, over}
use Rattle.fc_tree_slots.proofs.Opening.{pointer_typed, Pr, open_row, shut_row}
use Rattle.fc_tree_slots.specs.contracts.raw.Row.move_within as f
use Rattle.fc_tree_slots.proofs.raw.Row.move_within.Statement.{statement}
use Rattle.fc_tree_slots.proofs.raw.Row.move_within.Code as code

-- the offset of a place that is reached in three steps
far : (a b c s o : ℕ) → (a + b + c) * s + o ≡ c * s + (b * s + (a * s + o))
far a b c s o = omega (arith, add_times (a + b) c s, add_times a b s)

pub move_within_spec : {M : Type 1} → statement M
move_within_spec 𝓤 𝓛 𝓜 𝓡 wired T Y L LY g dict drops met gone =
    let E : El = record { row = T; laws = L } in let Z : Al = record { row = Y; laws = LY; g = g; d = dict; drops = drops } in
    let fn = inst_fn (args E Z) code.function in
    let En = f.ended T Y g dict drops in let ps = En.signature.params in let c = f.clauses T Y g dict drops 𝓛 𝓜.mem 𝓡.returns in let 𝓣 =
    tables 𝓤 𝓛.H 𝓜 𝓡 𝓡.env in
    let hs : Stays ps En.kept = (
      stay_ref (0 ∷ []) tt (plain (λ _. Pr E Z)),
      (stay_dropped _ _, (stay_dropped _ _, (stay_dropped _ _, (stay_dropped _ _, (stay_dropped _ _, tt))))),
    ) in
    proved_at 𝓛 En hs c 𝓜 𝓡 (
      Goes-ref 𝓛 3 0 tt (plain (λ _. Pr E Z)),
      (
        Goes-dropped 𝓛 3 (param_at 1 ps) En.kept.1.0 (λ κs x f. refl),
        (
          Goes-dropped 𝓛 3 (param_at 2 ps) En.kept.1.1.0 (λ κs x f. refl),
          (
            Goes-dropped 𝓛 3 (param_at 3 ps) En.kept.1.1.1.0 (λ κs x f. refl),
            (
              Goes-dropped 𝓛 3 (param_at 4 ps) En.kept.1.1.1.1.0 (λ κs x f. refl),
              (Goes-dropped 𝓛 3 (param_at 5 ps) En.kept.1.1.1.1.1.0 (λ κs x f. refl), tt),
            ),
          ),
        ),
      ),
    )
    (f.Key.name (args E Z)) fn (code.unfolded 𝓤 𝓛.H 𝓜 𝓡 wired (T, (Y, tt)) dict drops) (λ z are.
    let r = z.0.3.0 in let rb = r.ref_ptr.0 in let ro = r.ref_ptr.1 in let d = r.now in let p = z.0.3.1.0 in
    let low = z.0.3.1.1.0 in let from = z.0.3.1.1.1.0 in let to = z.0.3.1.1.1.1.0 in let i = z.0.3.1.1.1.1.1.0 in
    let Post = (walk_of 𝓛 En hs c).post z in let s = type_size (R E) in let m = low + from + i in let n = low + to + i in
    let Asks = (p ≡ d.start) × IsPresent d.held m × (n < length d.held) × (get_or (set d.held m None) n None ≡ None) in
    qed 𝓛 (((‵ (flft z.0.0.0 z.0.1.0) ⊛ ‵ (flft z.0.0.1.0 z.0.1.1.0) ⊛ ‵ (flft z.0.0.1.1.0 z.0.1.1.1.0) ⊛ ‵ ftrue) ⊛ ‵ (owns (types_at ps z.0.0) z.0.3 z.0.4))
    ∷ (raw (fact 𝓤 (z.0.0.1.0 ⊑ T.lives)) ⊛ raw (fact 𝓤 (z.0.0.1.1.0 ⊑ Y.lives)) ⊛ raw (fact 𝓤 Asks)) ∷ []) ∵
    move ! (1 ∷ []) $ split ! $ drop ! $ split ! $ drop ! $ heard ! Asks (λ asked. split ! $ split ! $ move ! (2 ∷ []) $ fsplit ! $ fsplit3 ! $
    keep ! (1 ∷ 2 ∷ 4 ∷ 5 ∷ []) $
    let x = asked.1.0 in let there = asked.1.1 in let lt = inside d.held m x there in
    regoal ! (λ us. prop (WpFn 𝓤 𝓛.H 𝓣.C 𝓣.Λ fn us Post))
    (λ j. are.0.0 j ++ (are.1.0 j ++ (are.1.1.0.0 j ++ (are.1.1.1.0.0 j ++ (are.1.1.1.1.0.0 j ++ (are.1.1.1.1.1.0.0 j ++ [])))))) refl $
    enter ! _ _ _ _ _ $ alloc_all ! (λ l. pass_all ! refl (
      (tt, tt),
      (
        pointer_typed p,
        (
          (tt, record { fits = are.1.1.0.1 }),
          (
            (tt, record { fits = are.1.1.1.0.1 }),
            ((tt, record { fits = are.1.1.1.1.0.1 }), ((tt, record { fits = are.1.1.1.1.1.0.1 }), tt)),
          ),
        ),
      ),
    ) $
    open_row E Z d m rb ro ! tt lt (λ b o e fits. move ! (2 ∷ []) $ bound (R E) ! (token Z d.alloc) b o d.held m (λ small. move ! (1 ∷ 2 ∷ []) $
    let near : (k : ℕ) → k < length d.held → k * s < 2 ^ 64 = λ k le. let below = times_below k (length d.held) s (2 ^ 63) (omega arith) small in omega arith in
    let fl = near low (omega arith) in let ff = near from (omega arith) in let ft = near to (omega (arith, asked.2)) in let fi = near i (omega arith) in
    let at = i * s + (from * s + (low * s + o)) in let goal = i * s + (to * s + (low * s + o)) in
    rewrite ! 29 (λ y. ‵ (fat full_share ty_ptr (l 2) 0 (ptr_val y))) (asked.0 ∙ e) refl $
    rewrite ! 0 (λ y. ‵ (place (R E) b (m * s + o) y)) there refl $ rewrite ! 0 (λ y. ‵ (place (R E) b y (Some x))) (far low from i s o) refl $
    value_out E ! x b at (λ v ok. first ! $ blocks ! $
    sets ! (bin ! (get ! refl) (size_lit ! (record { fits = fits.0 })) (record { fits = fl })) refl (tt, record { fits = fl }) $
    sets ! (bin ! (get ! refl) (get ! refl) tt) refl (tt, tt) $
    sets ! (bin ! (get ! refl) (size_lit ! (record { fits = fits.0 })) (record { fits = ff })) refl (tt, record { fits = ff }) $
    sets ! (bin ! (get ! refl) (get ! refl) tt) refl (tt, tt) $
    sets ! (bin ! (get ! refl) (size_lit ! (record { fits = fits.0 })) (record { fits = fi })) refl (tt, record { fits = fi }) $
    sets ! (bin ! (get ! refl) (get ! refl) tt) refl (tt, tt) $
    sets ! (of_opd ! (load ! (through ! refl (stop !)) (look ! 0 refl))) refl ok $
    -- [the item's bytes; what it owns; the row, in five entries; the other token]
    emptied E ! b at v $ rewrite ! 0 (λ y. ‵ (place (R E) b y None)) (sym (far low from i s o)) refl $ move ! (0 ∷ 3 ∷ []) $
    over (R E) ! (token Z d.alloc) b o d.held m n lt None asked.2 $
    rewrite ! 0 (λ y. ‵ (place (R E) b (n * s + o) y)) asked.3 refl $ rewrite ! 0 (λ y. ‵ (place (R E) b y None)) (far low to i s o) refl $
    as_written ! (elτ E) b goal $
    sets ! (bin ! (get ! refl) (size_lit ! (record { fits = fits.0 })) (record { fits = ft })) refl (tt, record { fits = ft }) $
    sets ! (bin ! (get ! refl) (get ! refl) tt) refl (tt, tt) $
    sets ! (bin ! (get ! refl) (size_lit ! (record { fits = fits.0 })) (record { fits = fi })) refl (tt, record { fits = fi }) $
    sets ! (bin ! (get ! refl) (get ! refl) tt) refl (tt, tt) $
    sets ! (of_opd ! (get ! refl)) refl ok $
    assigns_last ! (of_opd ! (get ! refl)) (through ! refl (stop !)) (init ! 0 refl ok) $ exec ! 𝓣.C 𝓣.Λ (env fn.locals l) (after 1 fn.body) (at_ret _ Post) $
    sets ! (of_opd ! (unit_lit !)) refl (tt, tt) $
    -- [the item's bytes; the rest of the row; what the item owns; the pointer; the borrow, in three entries; the other token]
    move ! (0 ∷ 2 ∷ []) $ value_in E ! x b goal v $ rewrite ! 0 (λ y. ‵ (place (R E) b y (Some x))) (sym (far low to i s o)) refl $ move ! (0 ∷ 2 ∷ 1 ∷ []) $
    let same = length-set d.held m None in let left = with_place d m None in
    shut_row E Z left n rb ro ! tt b o e (omega (arith, same, asked.2)) (Some x) $
    returns ! (look_at ! 0 refl) $ free_all ! refl $ feq_i ! (List Val) z.0.4.0 (vptr rb ro ∷ []) are.0.0 $ fjoin3 ! $
    nothing ! $ nothing ! $ fjoin ! $ nothing ! $ fjoin ! $ nothing ! $ fjoin ! $ nothing ! $ fjoin ! $ nothing ! $ fjoin ! $ move ! (1 ∷ 0 ∷ []) $ fjoin ! $
    move ! (1 ∷ 2 ∷ []) $ join ! $
    feq_i ! (List Val) (vunit ∷ []) (vunit ∷ []) refl $
    let new = with_place left n (Some x) in
    let gives = (new.held ≡ set (set d.held m None) n (get_or d.held m None)) × (new.start ≡ d.start) × (new.alloc ≡ d.alloc) in
    use0 𝓛 (raw (fact 𝓤 gives)) (fact_i 𝓤 gives (emp 𝓤) (ap (set (set d.held m None) n) (sym there), refl, refl)) $ move ! (2 ∷ 3 ∷ 1 ∷ 0 ∷ []) $
    by ! (leaves 𝓛 En hs c z vunit tt (new, (tt, (tt, (tt, (tt, (tt, tt)))))) (tt, (tt, (tt, (tt, (tt, (tt, tt)))))))))))))
