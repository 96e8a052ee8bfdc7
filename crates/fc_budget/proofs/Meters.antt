-- What counts, under its bound, and `charge` and `refund` at a call: what each is handed, and what a caller has of it. Assumes `Logic`.
use Rattle.std.proofs.Common.{◌≡◌, ℕ, ◌^◌, ◌<◌, Bool, List, [], ◌∷◌, refl, ap, w64}
use seplogic.Ra.Ura.{Ura}
use mir.Syntax.{Callee, Dict, method}
use mir.Val.{Val, vunit, vbool, vint, vptr}
use base.Logic.{SProp, ent, sep, ex, guard, emp, id⊢}
use base.Fml.{Lft, Share, Fml, ftrue, fsep, flft}
use base.Share
use prog.Memory.{Memory}
use prog.Routine.{Routine}
use types.Logic.{Logic, sem}
use contract.BorrowLft.{◌⊑◌, ⊑_refl}
use contract.Monad.{Fun, fact, fact_i}
use types.Kit.{‵, raw, ◌⊛◌, some, later, ◌$◌, ◌∵◌, !, qed, move, keep, use0, use1, use2}
use types.Kit.{split, split3, join, pick, fjoin, feq_i, feq_l, flt_i, check, show, await, updating, now as at_once, done}
use denote.RattleType.{RattleType}
use denote.Memory.{hidden_shr}
use denote.Param.{layouts}
use denote.Param.Laws.{Laws}
use denote.Builtin.{bool, unit}
use denote.Steps.{nothing, only}
use denote.Triple.Statement.{Contract}
use denote.Triple.Spec.{triple_of}
use Rattle.fc_budget.specs.declared.meter.Counting.{Ghosts}
use Rattle.fc_budget.specs.contracts.meter.Counting.charge as taking
use Rattle.fc_budget.specs.contracts.meter.Counting.refund as giving

pub record Me : Type 2 where
  pub row : RattleType
  pub laws : Laws row
  pub g : Ghosts row.Denot
  pub d : Dict
  pub drops : Dict

module _ (W : Me) where
  abbrev pub lent : Lft → ℕ × ℕ → W.row.Denot → Fml
  lent κ c m = hidden_shr W.row κ m c.0 c.1

  abbrev pub charge_key : Callee
  charge_key = method W.d 0 (layouts [] tt)

  abbrev pub refund_key : Callee
  refund_key = method W.d 1 (layouts [] tt)

  abbrev pub before_key : Callee
  before_key = method W.d 2 (layouts [] tt)

  abbrev pub after_key : Callee
  after_key = method W.d 3 (layouts [] tt)

module _ (W : Me) {M : Type 1} {𝓤 : Ura M} (𝓛 : Logic 𝓤) (at_mem : Memory → SProp 𝓤) (run : Routine → Fun 𝓤) where
  abbrev pub Charge : Contract 𝓤
  Charge = triple_of 𝓛 (taking.signature W.row) (taking.spec W.row W.g W.d W.drops 𝓛 at_mem run)

  abbrev pub Refund : Contract 𝓤
  Refund = triple_of 𝓛 (giving.signature W.row) (giving.spec W.row W.g W.d W.drops 𝓛 at_mem run)

  abbrev pub at_charge : Lft → Share → ℕ × ℕ → W.row.Denot → ℕ → Charge.Ghost
  at_charge κ q c m n = (
    (
      (κ, (κ, tt)),
      (Share.left q, (Share.right q, tt)),
      (⊑_refl κ, tt),
      (record { ref_ptr = c; now = m }, (n, tt)),
      (vptr c.0 c.1 ∷ [], (vint w64 n ∷ [], tt)),
    ),
    tt,
  )

  abbrev pub at_refund : Lft → Share → ℕ × ℕ → W.row.Denot → ℕ → Refund.Ghost
  at_refund κ q c m n = (
    (
      (κ, (κ, tt)),
      (Share.left q, (Share.right q, tt)),
      (⊑_refl κ, tt),
      (record { ref_ptr = c; now = m }, (n, tt)),
      (vptr c.0 c.1 ∷ [], (vint w64 n ∷ [], tt)),
    ),
    tt,
  )

module _ (W : Me) {M : Type 1} {𝓤 : Ura M} (𝓛 : Logic 𝓤) (at_mem : Memory → SProp 𝓤) (run : Routine → Fun 𝓤) (κ : Lft) (q : Share) (c : ℕ × ℕ)
    (m : W.row.Denot) (n : ℕ) where
  open 𝓛 use {H, A}

  -- both are handed the same
  pub Charge-goes : κ ⊑ W.row.lives → n < 2 ^ 64
      → ent 𝓤 (sep 𝓤 (sem 𝓛 (lent W κ c m)) (A.lft κ q)) ((Charge W 𝓛 at_mem run).pre (at_charge W 𝓛 at_mem run κ q c m n))
  Charge-goes lives fits =
      qed 𝓛 (‵ (lent W κ c m) ∷ ‵ (flft κ q) ∷ []) ∵
      nothing ! $ use0 𝓛 (raw (fact 𝓤 (κ ⊑ W.row.lives))) (fact_i 𝓤 (κ ⊑ W.row.lives) (emp 𝓤) lives) $ join ! $
      nothing ! $ flt_i ! n (2 ^ 64) fits $ feq_i ! (List Val) (vint w64 n ∷ []) (vint w64 n ∷ []) refl $ fjoin ! $ fjoin ! $
      move ! (2 ∷ []) $ feq_i ! (List Val) (vptr c.0 c.1 ∷ []) (vptr c.0 c.1 ∷ []) refl $ fjoin ! $ fjoin ! $
      move ! (2 ∷ []) $ use1 𝓛 (‵ (flft κ (Share.left q)) ⊛ ‵ (flft κ (Share.right q))) (𝓛.lfts.lft_split κ q) $ split ! $
      nothing ! $ move ! (2 ∷ 0 ∷ []) $ join ! $ move ! (1 ∷ 0 ∷ []) $ join ! $ join ! $ done !

  pub Charge-gives : (v : Val) → ent 𝓤 ((Charge W 𝓛 at_mem run).post (at_charge W 𝓛 at_mem run κ q c m n) v)
      (H.⇛ (ex 𝓤 (λ (y : Bool). guard 𝓤 (v ≡ vbool y) (A.lft κ q))))
  Charge-gives v =
      qed 𝓛 (raw ((Charge W 𝓛 at_mem run).post (at_charge W 𝓛 at_mem run κ q c m n) v) ∷ []) ∵ updating ! $
      use1 𝓛 (later (some (λ (y : Bool). ((‵ (flft κ (Share.left q)) ⊛ ‵ (flft κ (Share.right q)) ⊛ ‵ ftrue) ⊛ ‵ (bool.own_val y (v ∷ [])))
      ⊛ some (λ (ws : Unit {0} × (Unit {0} × Unit {0})). ‵ (fsep ftrue (fsep ftrue ftrue)) ⊛ ‵ ftrue)))) (id⊢ 𝓤 _) $ await ! tt $ pick ! (λ y.
      split ! $ split ! $ move ! (1 ∷ []) $ feq_l ! (λ e. split3 ! $ use2 𝓛 (‵ (flft κ q)) (𝓛.lfts.lft_join κ q) $ at_once ! $
      show ! (λ (z : Bool). guard 𝓤 (v ≡ vbool z) (A.lft κ q)) y $ check ! (ap only e) $ keep ! (0 ∷ []) $ done !))

  pub Refund-goes : κ ⊑ W.row.lives → n < 2 ^ 64
      → ent 𝓤 (sep 𝓤 (sem 𝓛 (lent W κ c m)) (A.lft κ q)) ((Refund W 𝓛 at_mem run).pre (at_refund W 𝓛 at_mem run κ q c m n))
  Refund-goes = Charge-goes

  pub Refund-gives : (v : Val) → ent 𝓤 ((Refund W 𝓛 at_mem run).post (at_refund W 𝓛 at_mem run κ q c m n) v) (H.⇛ (guard 𝓤 (v ≡ vunit) (A.lft κ q)))
  Refund-gives v =
      qed 𝓛 (raw ((Refund W 𝓛 at_mem run).post (at_refund W 𝓛 at_mem run κ q c m n) v) ∷ []) ∵ updating ! $
      use1 𝓛 (later (some (λ (r : Unit {0}). ((‵ (flft κ (Share.left q)) ⊛ ‵ (flft κ (Share.right q)) ⊛ ‵ ftrue) ⊛ ‵ (unit.own_val r (v ∷ [])))
      ⊛ some (λ (ws : Unit {0} × (Unit {0} × Unit {0})). ‵ (fsep ftrue (fsep ftrue ftrue)) ⊛ ‵ ftrue)))) (id⊢ 𝓤 _) $ await ! tt $ pick ! (λ r.
      split ! $ split ! $ move ! (1 ∷ []) $ feq_l ! (λ e. split3 ! $ use2 𝓛 (‵ (flft κ q)) (𝓛.lfts.lft_join κ q) $ at_once ! $
      check ! (ap only e) $ keep ! (0 ∷ []) $ done !))
