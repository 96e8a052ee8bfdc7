-- The block goes back to the inner allocator, and its bytes are counted as back before that, or after it. Assumes `Logic`.
use Rattle.std.proofs.Common.{◌≡◌, ℕ, ◌^◌, ◌<◌, List, [], ◌∷◌, refl, w64, Bor}
use seplogic.Ra.Ura.{Ura}
use mir.Syntax.{Ty, Args, Fn, a_type, dnil, dcons}
use mir.Val.{Val, vunit, vint, vptr}
use mir.MapTy.{inst_fn}
use base.Logic.{SProp, ent, never_e}
use base.Fml.{Lft, Share, Fml, ffalse, ftrue, fsep, froom, flft}
use prog.Memory.{Memory, size, align, capped}
use prog.Routine.{Routine}
use prog.Wp.{WpFn, Tables}
use types.Logic.{Logic}
use contract.BorrowLft.{◌⊑◌, ⊑_trans}
use contract.Monad.{Fun, fact}
use contract.Running.{tables, tables_of}
use sound.WpLaws.{fm_of, WpFn-mono}
use types.Kit.{Item, ‵, raw, ◌⊛◌, later, given, ◌$◌, ◌∵◌, !, qed, by, move}
use types.Kit.{keep, use1, use2, split, split3, join, learn, fsplit, fjoin, feq_i, suffices, await, done}
use types.Run.{stop, fld, addr, no_more, and_then, of_opd, unit_lit, returns, enter}
use types.ByLocal.{alloc_all, pass_all, free_all, look_at, get, through, sets, lands_as}
use denote.Exit.{yes}
use denote.RattleType.{owns}
use denote.Ref.{shr_vals}
use denote.Opens.{shr_dup}
use denote.Param.{bounded, param}
use denote.Plain.{uint_vals, uint_Tells}
use denote.RawPtr.{Ptr, block_ptr, null_ptr, ptr_val, rawptr_vals, rawptr_Tells}
use denote.Builtin.{usize, RawPtr, RefOf}
use denote.Signature.{Slot, plain, types_at}
use denote.Steps.{heard, nothing}
use denote.Triple.Call.{calls_at}
use denote.Triple.Clauses.{Ended, Clauses}
use denote.Triple.Spec.{triple_of}
use denote.Triple.Statement.{Triple}
use denote.Triple.Table.{entered}
use denote.Triple.Walked.{Stays, stay_dropped, walk_of, ends_at, walked, Goes-dropped, walk_Meets}
use Rattle.std.proofs.alloc.Calls.{Al, seen, token, gives_key, Gives, at_gives, Gives-goes, Gives-Gives}
use Rattle.fc_budget.proofs.Meters.{Me, lent, before_key, after_key, Refund, at_refund, Refund-goes, Refund-gives}
use Rattle.fc_budget.proofs.Shares.{Whole, inner_at, meter_at, lends_both}
use Rattle.fc_budget.specs.contracts.capped.CappedAllocator.deallocate as f
use Rattle.fc_budget.specs.contracts.capped.CappedAllocator.deallocate.Key as key
use Rattle.fc_budget.proofs.capped.CappedAllocator.deallocate.Statement.{statement}
use Rattle.fc_budget.proofs.capped.CappedAllocator.deallocate.Code as code

module _ (Z : Al) (W : Me) where
  abbrev args : Args
  args = bounded (a_type ∷ a_type ∷ []) (Z.row, (W.row, tt)) (dcons Z.d (dcons W.d (dcons Z.drops (dcons W.drops dnil))))

  abbrev body : Fn
  body = inst_fn args code.function

  abbrev self : Slot 3
  self = RefOf (0 ∷ []) tt (plain (λ _. Whole Z W)) (λ _. tt)

  abbrev ended : Ended
  ended = f.ended Z.row W.row Z.g Z.d W.g W.d Z.drops W.drops

  abbrev stays : Stays ended.signature.params ended.kept
  stays = (
    stay_dropped self yes,
    (
      stay_dropped (plain (λ _. RawPtr)) yes,
      (stay_dropped (plain (λ _. usize)) yes, (stay_dropped (plain (λ _. usize)) yes, tt)),
    ),
  )

module _ (Z : Al) (W : Me) {M : Type 1} {𝓤 : Ura M} (𝓛 : Logic 𝓤) (at_mem : Memory → SProp 𝓤) (run : Routine → Fun 𝓤) (𝓣 : Tables 𝓤 𝓛.H)
    (gives : Triple 𝓤 (𝓣.C (gives_key Z)) (Gives Z 𝓛 at_mem run))
    (before : Triple 𝓤 (𝓣.C (before_key W)) (Refund W 𝓛 at_mem run)) (after : Triple 𝓤 (𝓣.C (after_key W)) (Refund W 𝓛 at_mem run))
    (κ ρ σ : Lft) (q s t : Share) (within : κ ⊑ ρ) (beside : κ ⊑ σ) (r : Bor (Whole Z W).Denot) (n al : ℕ) (τ : Ty) where
  open 𝓛 use {H}

  abbrev clauses : Clauses 𝓤 (ended Z W)
  clauses = f.clauses Z.row W.row Z.g Z.d W.g W.d Z.drops W.drops 𝓛 at_mem run

  abbrev bound : Ptr → (walk_of 𝓛 (ended Z W) (stays Z W) clauses).Ghost
  bound x = (
    (
      (κ, (ρ, (σ, tt))),
      (q, (s, (t, tt))),
      (within, (beside, tt)),
      (r, (x, (n, (al, tt)))),
      (shr_vals r, (rawptr_vals x, (vint w64 n ∷ [], (vint w64 al ∷ [], tt)))),
    ),
    τ,
  )

  abbrev values : Ptr → List Val
  values x = vptr r.ref_ptr.0 r.ref_ptr.1 ∷ ptr_val x ∷ vint w64 n ∷ vint w64 al ∷ []

  abbrev Post : Ptr → Val → SProp 𝓤
  Post x = (walk_of 𝓛 (ended Z W) (stays Z W) clauses).post (bound x)

  abbrev entry : Ptr → Item 𝓤
  entry x = (‵ (flft κ q) ⊛ ‵ (flft ρ s) ⊛ ‵ (flft σ t) ⊛ ‵ ftrue) ⊛ ‵ (owns (types_at (ended Z W).signature.params (bound x).0.0) (bound x).0.3 (bound x).0.4)

  abbrev Said : Type 0
  Said = (capped (size τ) ≡ n) × (capped (align τ) ≡ al)

  abbrev given_up : Fml → Item 𝓤
  given_up block = raw (fact 𝓤 (ρ ⊑ Z.row.lives)) ⊛ raw (fact 𝓤 (σ ⊑ W.row.lives)) ⊛ raw (fact 𝓤 Said) ⊛ ‵ block

  walk : n < 2 ^ 64 → al < 2 ^ 64 → (x : Ptr)
      → ent 𝓤 ((walk_of 𝓛 (ended Z W) (stays Z W) clauses).pre (bound x)) (WpFn 𝓤 H 𝓣.C 𝓣.Λ (body Z W) (values x) (Post x))
  walk small even null_ptr =
      qed 𝓛 (entry null_ptr ∷ given_up (fsep ffalse (token Z r.now.inner τ null_ptr)) ∷ []) ∵
      move ! (1 ∷ []) $ split3 ! $ move ! (2 ∷ []) $ split ! $ move ! (1 ∷ []) $ fsplit ! $ keep ! (0 ∷ []) $ by ! (never_e 𝓤 _)
  walk small even (block_ptr b o) =
      let h : Z.row.Denot = r.now.inner in
      let p : ℕ × ℕ = (r.ref_ptr.0, inner_at Z W r.ref_ptr.1) in
      let c : ℕ × ℕ = (r.ref_ptr.0, meter_at Z W r.ref_ptr.1) in
      let x : Ptr = block_ptr b o in
      let w : (Refund W 𝓛 at_mem run).Ghost = at_refund W 𝓛 at_mem run κ q c r.now.meter n in
      let y : (Gives Z 𝓛 at_mem run).Ghost = at_gives Z 𝓛 at_mem run κ q p h b o n al τ in
      qed 𝓛 (entry x ∷ given_up (fsep (froom τ b o) (token Z h τ x)) ∷ []) ∵
      move ! (1 ∷ []) $ split3 ! $ heard ! (ρ ⊑ Z.row.lives) (λ live. heard ! (σ ⊑ W.row.lives) (λ lives. split ! $ heard ! Said (λ said.
      let counts : κ ⊑ W.row.lives = ⊑_trans κ σ W.row.lives beside lives in move ! (1 ∷ []) $
      -- [the tokens, apart; what the parameters own; the block]
      split ! $ split ! $ move ! (2 ∷ []) $ fsplit ! $ fsplit ! $ move ! (1 ∷ []) $
      use1 𝓛 (‵ (lent W κ c r.now.meter) ⊛ ‵ (seen Z κ p h)) (lends_both Z W 𝓛 κ r.ref_ptr.0 r.ref_ptr.1 r.now) $ split ! $
      keep ! (0 ∷ 4 ∷ 1 ∷ 5 ∷ 6 ∷ []) $ shr_dup ! (param 1 W.row) W.laws.shr_laws r.now.meter c.0 c.1 κ $ move ! (0 ∷ 2 ∷ []) $
      enter ! 𝓣.C 𝓣.Λ (body Z W) (values x) _ $
      alloc_all ! (λ l. pass_all ! refl ((tt, tt), ((tt, tt), ((tt, record { fits = small }), ((tt, record { fits = even }), tt)))) $
      sets ! (addr ! (through ! refl (fld ! refl (stop !)))) refl (tt, tt) $
      use2 𝓛 (raw ((Refund W 𝓛 at_mem run).pre w)) (Refund-goes W 𝓛 at_mem run κ q c r.now.meter n counts small) $
      calls_at ! (fm_of 𝓤 H 𝓛.laws 𝓣) (Refund W 𝓛 at_mem run) before w (and_then ! (get ! refl) (and_then ! (get ! refl) (no_more !))) (λ u.
      use1 𝓛 (later (given (u ≡ vunit) (‵ (flft κ q)))) (Refund-gives W 𝓛 at_mem run κ q c r.now.meter n u) $ await ! tt $
      learn ! (λ none. lands_as ! none refl (tt, tt) $
      sets ! (addr ! (through ! refl (fld ! refl (stop !)))) refl (tt, tt) $ move ! (2 ∷ 0 ∷ []) $
      join ! $ move ! (3 ∷ []) $ fsplit ! $ move ! (1 ∷ 2 ∷ []) $ join ! $ move ! (1 ∷ 0 ∷ []) $ join ! $
      use1 𝓛 (raw ((Gives Z 𝓛 at_mem run).pre y))
      (Gives-goes Z 𝓛 at_mem run κ q p h (⊑_trans κ ρ Z.row.lives within live) b o n al τ said.0 said.1 small even) $
      calls_at ! (fm_of 𝓤 H 𝓛.laws 𝓣) (Gives Z 𝓛 at_mem run) gives y
      (and_then ! (get ! refl) (and_then ! (get ! refl) (and_then ! (get ! refl) (and_then ! (get ! refl) (no_more !))))) (λ v.
      use1 𝓛 (later (given (v ≡ vunit) (‵ (flft κ q)))) (Gives-Gives Z 𝓛 at_mem run κ q p h b o n al τ v) $ await ! tt $
      learn ! (λ done_so. lands_as ! done_so refl (tt, tt) $ move ! (1 ∷ 0 ∷ []) $
      sets ! (addr ! (through ! refl (fld ! refl (stop !)))) refl (tt, tt) $
      use2 𝓛 (raw ((Refund W 𝓛 at_mem run).pre w)) (Refund-goes W 𝓛 at_mem run κ q c r.now.meter n counts small) $
      calls_at ! (fm_of 𝓤 H 𝓛.laws 𝓣) (Refund W 𝓛 at_mem run) after w (and_then ! (get ! refl) (and_then ! (get ! refl) (no_more !))) (λ z.
      use1 𝓛 (later (given (z ≡ vunit) (‵ (flft κ q)))) (Refund-gives W 𝓛 at_mem run κ q c r.now.meter n z) $ await ! tt $
      learn ! (λ none_too. lands_as ! none_too refl (tt, tt) $
      sets ! (of_opd ! (unit_lit !)) refl (tt, tt) $ returns ! (look_at ! 0 refl) $ free_all ! refl $
      suffices ! _ (ends_at 𝓛 (ended Z W) (stays Z W) clauses (bound x) vunit tt (tt, (tt, (tt, (tt, tt)))) (tt, (tt, (tt, (tt, tt))))) $
      nothing ! $ feq_i ! (List Val) (vunit ∷ []) (vunit ∷ []) refl $ nothing ! $ nothing ! $ fjoin ! $ nothing ! $ fjoin ! $ nothing ! $ fjoin ! $
      nothing ! $ fjoin ! $ join ! $
      move ! (2 ∷ 3 ∷ []) $ join ! $ join ! $ done !))))))))))

pub deallocate_spec : {M : Type 1} → statement M
unfolding tables_of
deallocate_spec 𝓤 𝓛 𝓜 𝓡 wired Y X laws laws' g d g' d' drops drops' met met' _ _ =
    let Z : Al = record { row = Y; laws = laws; g = g; d = d; drops = drops } in
    let W : Me = record { row = X; laws = laws'; g = g'; d = d'; drops = drops' } in
    let 𝓣 : Tables 𝓤 𝓛.H = tables_of 𝓤 𝓛.H 𝓜 (tables 𝓤 𝓛.H 𝓜 𝓡 𝓡.env) in
    let run = WpFn 𝓤 𝓛.H 𝓣.C 𝓣.Λ (body Z W) in
    let number = Goes-dropped 𝓛 3 (plain (λ _. usize)) yes (λ κs x w. refl) in
    let c = f.clauses Y X g d g' d' drops drops' 𝓛 𝓜.mem 𝓡.returns in
    entered 𝓤 𝓛.H (triple_of 𝓛 (f.signature Y X) (f.spec Y X g d g' d' drops drops' 𝓛 𝓜.mem 𝓡.returns)) 𝓣.C 𝓣.Λ (key.name (args Z W)) (body Z W)
    (code.unfolded 𝓤 𝓛.H 𝓜 𝓡 wired (Y, (X, tt)) d d' drops drops')
    (walk_Meets 𝓛 (ended Z W) (stays Z W)
    (Goes-dropped 𝓛 3 (self Z W) yes (λ κs x w. refl), (Goes-dropped 𝓛 3 (plain (λ _. RawPtr)) yes (λ κs x w. refl), (number, (number, tt))))
    c run (WpFn-mono 𝓤 𝓛.H 𝓛.laws 𝓣 (body Z W))
    (walked 𝓛 (ended Z W) (stays Z W) c run (λ κs. (shr_vals, (rawptr_vals, (uint_vals w64, (uint_vals w64, tt)))))
    (λ κs. ((λ r vs is. is.0), (rawptr_Tells, (uint_Tells w64, (uint_Tells w64, tt)))))
    (λ κs qs bounds a τ are. walk Z W 𝓛 𝓜.mem 𝓡.returns 𝓣 (met.deallocate drops) (met'.before_free drops') (met'.after_free drops')
    κs.0 κs.1.0 κs.1.1.0 qs.0 qs.1.0 qs.1.1.0 bounds.0 bounds.1.0 a.0 a.1.1.0 a.1.1.1.0 τ are.1.1.0.1 are.1.1.1.0.1 a.1.0)))
