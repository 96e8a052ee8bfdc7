-- The bytes are counted as out, and as back where the inner allocator has none. Assumes `Logic`.
use Rattle.std.proofs.Common.{◌≡◌, ℕ, ◌^◌, ◌<◌, Bool, true, false, List, [], ◌∷◌, Ok, Err, refl, w64, Bor}
use seplogic.Ra.Ura.{Ura}
use mir.Syntax.{Ty, Args, Fn, Body, place, a_type, dnil, dcons}
use mir.Val.{Val, vunit, vbool, vint, vptr}
use mir.MapTy.{inst_fn}
use base.Logic.{SProp, ent}
use base.Fml.{Lft, Share, ftrue, flft}
use prog.Memory.{Memory, size, align, capped}
use prog.Routine.{Routine}
use prog.Wp.{Env, Wp, WpFn, Tables, after_seq}
use types.Logic.{Logic}
use contract.BorrowLft.{◌⊑◌, ⊑_trans}
use contract.Monad.{Fun, fact}
use contract.Running.{tables, tables_of}
use sound.WpLaws.{fm_of, WpFn-mono}
use types.Kit.{Post, post, any_q, ⋆, ‵, raw, ◌⊛◌, later, some, given, settles, at_ret, ◌$◌, ◌∵◌, !, qed}
use types.Kit.{by, move, keep, use0, use1, use2, split, split3, join, pick, learn, regoal, fsplit, fjoin, suffices, await, done}
use types.Part.{whole, agg}
use types.Match.{vrt}
use types.Run.{stop, fld, addr, lit, un, no_more, and_then, of_opd, first, branches, skips, switches_on, exec, returns, returns_within, enter}
use types.ByLocal.{alloc_all, pass_all, free_all, look_at, get, get_tag, through, sets, lands_as, lands_last, env}
use denote.Exit.{yes}
use denote.RattleType.{owns}
use denote.Ref.{shr_vals}
use denote.Opens.{shr_dup}
use denote.Param.{bounded, param}
use denote.Plain.{uint_vals, uint_Tells}
use denote.RawPtr.{block_ptr}
use denote.Builtin.{usize, RefOf}
use denote.Signature.{Slot, plain, types_at}
use denote.Steps.{heard, nothing}
use denote.Triple.Call.{calls_at, calls_at_last}
use denote.Triple.Clauses.{Ended, Clauses}
use denote.Triple.Spec.{triple_of}
use denote.Triple.Statement.{Triple}
use denote.Triple.Table.{entered}
use denote.Triple.Walked.{Stays, stay_dropped, walk_of, ends_at, walked, Goes-dropped, walk_Meets}
use Rattle.core.proofs.alloc.Shapes.{after, head, arm_body}
use Rattle.std.proofs.alloc.Calls.{Al, seen, token, got, Answer, answer_val, Answer-typed}
use Rattle.std.proofs.alloc.Calls.{Answer-Ok, Answer-err, takes_key, Takes, at_takes, Answered, Takes-goes, Takes-gives, answers}
use Rattle.fc_budget.proofs.Meters.{Me, lent, charge_key, refund_key, Charge, Refund, at_charge, at_refund}
use Rattle.fc_budget.proofs.Meters.{Charge-goes, Charge-gives, Refund-goes, Refund-gives}
use Rattle.fc_budget.proofs.Shares.{Whole, inner_at, meter_at, lends_both}
use Rattle.fc_budget.specs.contracts.capped.CappedAllocator.allocate as f
use Rattle.fc_budget.specs.contracts.capped.CappedAllocator.allocate.Key as key
use Rattle.fc_budget.proofs.capped.CappedAllocator.allocate.Statement.{statement}
use Rattle.fc_budget.proofs.capped.CappedAllocator.allocate.Code as code

module _ (Z : Al) (W : Me) where
  abbrev args : Args
  args = bounded (a_type ∷ a_type ∷ []) (Z.row, (W.row, tt)) (dcons Z.d (dcons W.d (dcons Z.drops (dcons W.drops dnil))))

  abbrev here : Fn
  here = inst_fn args code.function

  abbrev self : Slot 3
  self = RefOf (0 ∷ []) tt (plain (λ _. Whole Z W)) (λ _. tt)

  abbrev ended : Ended
  ended = f.ended Z.row W.row Z.g Z.d W.g W.d Z.drops W.drops

  abbrev stays : Stays ended.signature.params ended.kept
  stays = (stay_dropped self yes, (stay_dropped (plain (λ _. usize)) yes, (stay_dropped (plain (λ _. usize)) yes, tt)))

abbrev result_of : Bool → ℕ → ℕ → Answer.Denot
result_of true b o = Ok (block_ptr b o)
result_of false b o = Err (record {})

module _ (Z : Al) (W : Me) {M : Type 1} {𝓤 : Ura M} (𝓛 : Logic 𝓤) (at_mem : Memory → SProp 𝓤) (run : Routine → Fun 𝓤) (𝓣 : Tables 𝓤 𝓛.H)
    (takes : Triple 𝓤 (𝓣.C (takes_key Z)) (Takes Z 𝓛 at_mem run))
    (charge : Triple 𝓤 (𝓣.C (charge_key W)) (Charge W 𝓛 at_mem run)) (refund : Triple 𝓤 (𝓣.C (refund_key W)) (Refund W 𝓛 at_mem run))
    (κ ρ σ : Lft) (q s t : Share) (within : κ ⊑ ρ) (beside : κ ⊑ σ) (r : Bor (Whole Z W).Denot) (n al : ℕ) (τ : Ty) where
  open 𝓛 use {H}

  abbrev clauses : Clauses 𝓤 (ended Z W)
  clauses = f.clauses Z.row W.row Z.g Z.d W.g W.d Z.drops W.drops 𝓛 at_mem run

  abbrev bound : (walk_of 𝓛 (ended Z W) (stays Z W) clauses).Ghost
  bound = (((κ, (ρ, (σ, tt))), (q, (s, (t, tt))), (within, (beside, tt)), (r, (n, (al, tt))), (shr_vals r, (vint w64 n ∷ [], (vint w64 al ∷ [], tt)))), τ)

  abbrev values : List Val
  values = vptr r.ref_ptr.0 r.ref_ptr.1 ∷ vint w64 n ∷ vint w64 al ∷ []

  abbrev Left : Val → SProp 𝓤
  Left = (walk_of 𝓛 (ended Z W) (stays Z W) clauses).post bound

  abbrev Said : Type 0
  Said = (capped (size τ) ≡ n) × (capped (align τ) ≡ al)

  abbrev then_runs : Env 𝓤 H → Body → Post 𝓤 H → Post 𝓤 H
  then_runs E b p = any_q (after_seq 𝓤 H (Wp 𝓤 H 𝓣.C 𝓣.Λ E b (post 𝓤 H p)) (post 𝓤 H p))

  -- a block that was handed out, or none, as the result
  exits : (y : Bool) (b o : ℕ)
      → ent 𝓤 (⋆ 𝓛 (‵ (got (token Z r.now.inner) τ y b o) ∷ ‵ (flft κ q) ∷ (‵ (flft ρ s) ⊛ ‵ (flft σ t) ⊛ ‵ ftrue) ∷ [])) (Left (answer_val y b o))
  exits true b o = qed 𝓛 (‵ (got (token Z r.now.inner) τ true b o) ∷ ‵ (flft κ q) ∷ (‵ (flft ρ s) ⊛ ‵ (flft σ t) ⊛ ‵ ftrue) ∷ []) ∵
      suffices ! _ (ends_at 𝓛 (ended Z W) (stays Z W) clauses bound (answer_val true b o) (result_of true b o) (tt, (tt, (tt, tt))) (tt, (tt, (tt, tt)))) $
      use0 𝓛 (‵ (Answer.own_val (result_of true b o) (answer_val true b o ∷ []))) (Answer-Ok 𝓛 b o) $ nothing ! $ nothing ! $ fjoin ! $ nothing ! $
      fjoin ! $ nothing ! $ fjoin ! $ join ! $
      move ! (2 ∷ 3 ∷ []) $ join ! $ join ! $ done !
  exits false b o = qed 𝓛 (‵ ftrue ∷ ‵ (flft κ q) ∷ (‵ (flft ρ s) ⊛ ‵ (flft σ t) ⊛ ‵ ftrue) ∷ []) ∵
      suffices ! _ (ends_at 𝓛 (ended Z W) (stays Z W) clauses bound (answer_val false b o) (result_of false b o) (tt, (tt, (tt, tt))) (tt, (tt, (tt, tt)))) $
      use0 𝓛 (‵ (Answer.own_val (result_of false b o) (answer_val false b o ∷ []))) (Answer-err 𝓛) $ nothing ! $ nothing ! $ fjoin ! $ nothing ! $
      fjoin ! $ nothing ! $ fjoin ! $ join ! $
      move ! (2 ∷ 3 ∷ []) $ join ! $ join ! $ done !

  walk : n < 2 ^ 64 → al < 2 ^ 64 → ent 𝓤 ((walk_of 𝓛 (ended Z W) (stays Z W) clauses).pre bound) (WpFn 𝓤 H 𝓣.C 𝓣.Λ (here Z W) values Left)
  walk small even =
      let h : Z.row.Denot = r.now.inner in
      let p : ℕ × ℕ = (r.ref_ptr.0, inner_at Z W r.ref_ptr.1) in
      let c : ℕ × ℕ = (r.ref_ptr.0, meter_at Z W r.ref_ptr.1) in
      let m : W.row.Denot = r.now.meter in
      let w : (Charge W 𝓛 at_mem run).Ghost = at_charge W 𝓛 at_mem run κ q c m n in
      let x : (Refund W 𝓛 at_mem run).Ghost = at_refund W 𝓛 at_mem run κ q c m n in
      let y : (Takes Z 𝓛 at_mem run).Ghost = at_takes Z 𝓛 at_mem run κ q p h n al τ in
      let rest : ℕ → Body = λ k. after k (here Z W).body in
      qed 𝓛 (((‵ (flft κ q) ⊛ ‵ (flft ρ s) ⊛ ‵ (flft σ t) ⊛ ‵ ftrue) ⊛ ‵ (owns (types_at (ended Z W).signature.params bound.0.0) bound.0.3 bound.0.4))
      ∷ (raw (fact 𝓤 (ρ ⊑ Z.row.lives)) ⊛ raw (fact 𝓤 (σ ⊑ W.row.lives)) ⊛ raw (fact 𝓤 Said)) ∷ []) ∵
      move ! (1 ∷ []) $ split3 ! $ heard ! (ρ ⊑ Z.row.lives) (λ live. heard ! (σ ⊑ W.row.lives) (λ lives. heard ! Said (λ said.
      let counts : κ ⊑ W.row.lives = ⊑_trans κ σ W.row.lives beside lives in
      split ! $ split ! $ move ! (2 ∷ []) $ fsplit ! $ fsplit ! $ move ! (1 ∷ []) $
      use1 𝓛 (‵ (lent W κ c m) ⊛ ‵ (seen Z κ p h)) (lends_both Z W 𝓛 κ r.ref_ptr.0 r.ref_ptr.1 r.now) $ split ! $
      keep ! (0 ∷ 4 ∷ 1 ∷ 5 ∷ []) $ shr_dup ! (param 1 W.row) W.laws.shr_laws m c.0 c.1 κ $ move ! (0 ∷ 2 ∷ []) $
      enter ! 𝓣.C 𝓣.Λ (here Z W) values _ $ alloc_all ! (λ l. pass_all ! refl ((tt, tt), ((tt, record { fits = small }), ((tt, record { fits = even }), tt))) $
      let E : Env 𝓤 H = env (here Z W).locals l in
      sets ! (addr ! (through ! refl (fld ! refl (stop !)))) refl (tt, tt) $
      use2 𝓛 (raw ((Charge W 𝓛 at_mem run).pre w)) (Charge-goes W 𝓛 at_mem run κ q c m n counts small) $
      calls_at ! (fm_of 𝓤 H 𝓛.laws 𝓣) (Charge W 𝓛 at_mem run) charge w (and_then ! (get ! refl) (and_then ! (get ! refl) (no_more !))) (λ u.
      use1 𝓛 (later (some (λ (fits : Bool). given (u ≡ vbool fits) (‵ (flft κ q))))) (Charge-gives W 𝓛 at_mem run κ q c m n u) $ await ! tt $
      pick ! (λ fits. learn ! (λ is. lands_as ! is refl (tt, tt) $
      -- [the token; the meter; the handle; the other tokens]
      sets ! (un ! (get ! refl) tt) refl (tt, tt) $
      first ! $ branches ! (get ! refl)
      (λ refused. sets ! (agg ! (no_more !)) refl (tt, tt) $
      sets ! (agg ! (and_then ! (lit ! tt) (and_then ! (get ! refl) (no_more !)))) refl (Answer-typed false 0 0) $
      returns_within ! Left refl (look_at ! 0 refl) $ free_all ! refl $ nothing ! $ keep ! (0 ∷ 1 ∷ 4 ∷ []) $ by ! (exits false 0 0))
      (λ fitted. skips ! $ exec ! 𝓣.C 𝓣.Λ E (rest 4) (at_ret E Left) $ move ! (2 ∷ 0 ∷ []) $
      sets ! (addr ! (through ! refl (fld ! refl (stop !)))) refl (tt, tt) $
      use2 𝓛 (raw ((Takes Z 𝓛 at_mem run).pre y)) (Takes-goes Z 𝓛 at_mem run κ q p h (⊑_trans κ ρ Z.row.lives within live) n al τ said.0 said.1 small even) $
      calls_at ! (fm_of 𝓤 H 𝓛.laws 𝓣) (Takes Z 𝓛 at_mem run) takes y (and_then ! (get ! refl) (and_then ! (get ! refl)
      (and_then ! (get ! refl) (no_more !)))) (λ v.
      use1 𝓛 (later (raw (Answered Z 𝓛 at_mem run h τ v) ⊛ ‵ (flft κ q))) (Takes-gives Z 𝓛 at_mem run κ q p h n al τ v) $ await ! tt $ split ! $
      answers Z ! at_mem run h τ v
      (λ b o answered. fjoin ! $ lands_as ! answered refl (Answer-typed true b o) $
      first ! $ switches_on ! (get_tag ! (vrt ! refl (fld ! refl (stop !))) (whole !)) $
      exec ! 𝓣.C 𝓣.Λ E (arm_body 1 (head (rest 6))) (then_runs E (rest 7) (at_ret E Left)) $
      skips ! $ exec ! 𝓣.C 𝓣.Λ E (rest 7) (at_ret E Left) $
      sets ! (of_opd ! (get ! refl)) refl (Answer-typed true b o) $ returns ! (look_at ! 0 refl) $ free_all ! refl $ keep ! (0 ∷ 1 ∷ 3 ∷ []) $
      by ! (exits true b o))
      (λ answered. nothing ! $ lands_as ! answered refl (Answer-typed false 0 0) $
      first ! $ switches_on ! (get_tag ! (vrt ! refl (fld ! refl (stop !))) (whole !)) $
      exec ! 𝓣.C 𝓣.Λ E (arm_body 0 (head (rest 6))) (then_runs E (rest 7) (at_ret E Left)) $
      sets ! (addr ! (through ! refl (fld ! refl (stop !)))) refl (tt, tt) $ move ! (2 ∷ 1 ∷ []) $
      use2 𝓛 (raw ((Refund W 𝓛 at_mem run).pre x)) (Refund-goes W 𝓛 at_mem run κ q c m n counts small) $
      calls_at_last ! (fm_of 𝓤 H 𝓛.laws 𝓣) (Refund W 𝓛 at_mem run) refund x (and_then ! (get ! refl) (and_then ! (get ! refl) (no_more !))) (λ z.
      use1 𝓛 (later (given (z ≡ vunit) (‵ (flft κ q)))) (Refund-gives W 𝓛 at_mem run κ q c m n z) $ await ! tt $ learn ! (λ none.
      regoal ! (λ (v : Val). settles E (place 10 []) v (then_runs E (rest 7) (at_ret E Left))) none refl $ lands_last ! refl (tt, tt) $
      exec ! 𝓣.C 𝓣.Λ E (rest 7) (at_ret E Left) $
      sets ! (of_opd ! (get ! refl)) refl (Answer-typed false 0 0) $ returns ! (look_at ! 0 refl) $ free_all ! refl $ keep ! (1 ∷ 0 ∷ 2 ∷ []) $
      by ! (exits false 0 0)))))))))))))

pub allocate_spec : {M : Type 1} → statement M
unfolding tables_of
allocate_spec 𝓤 𝓛 𝓜 𝓡 wired Y X laws laws' g d g' d' drops drops' met met' _ _ =
    let Z : Al = record { row = Y; laws = laws; g = g; d = d; drops = drops } in
    let W : Me = record { row = X; laws = laws'; g = g'; d = d'; drops = drops' } in
    let 𝓣 : Tables 𝓤 𝓛.H = tables_of 𝓤 𝓛.H 𝓜 (tables 𝓤 𝓛.H 𝓜 𝓡 𝓡.env) in
    let run = WpFn 𝓤 𝓛.H 𝓣.C 𝓣.Λ (here Z W) in
    let number = Goes-dropped 𝓛 3 (plain (λ _. usize)) yes (λ κs x w. refl) in
    let c = f.clauses Y X g d g' d' drops drops' 𝓛 𝓜.mem 𝓡.returns in
    entered 𝓤 𝓛.H (triple_of 𝓛 (f.signature Y X) (f.spec Y X g d g' d' drops drops' 𝓛 𝓜.mem 𝓡.returns)) 𝓣.C 𝓣.Λ (key.name (args Z W)) (here Z W)
    (code.unfolded 𝓤 𝓛.H 𝓜 𝓡 wired (Y, (X, tt)) d d' drops drops')
    (walk_Meets 𝓛 (ended Z W) (stays Z W) (Goes-dropped 𝓛 3 (self Z W) yes (λ κs x w. refl), (number, (number, tt))) c run
    (WpFn-mono 𝓤 𝓛.H 𝓛.laws 𝓣 (here Z W))
    (walked 𝓛 (ended Z W) (stays Z W) c run (λ κs. (shr_vals, (uint_vals w64, (uint_vals w64, tt))))
    (λ κs. ((λ r vs is. is.0), (uint_Tells w64, (uint_Tells w64, tt))))
    (λ κs qs bounds a τ are. walk Z W 𝓛 𝓜.mem 𝓡.returns 𝓣 (met.allocate drops) (met'.charge drops') (met'.refund drops')
    κs.0 κs.1.0 κs.1.1.0 qs.0 qs.1.0 qs.1.1.0 bounds.0 bounds.1.0 a.0 a.1.0 a.1.1.0 τ are.1.0.1 are.1.1.0.1)))
