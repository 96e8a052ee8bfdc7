-- What a `&` to an allocator with a cap lends: a `&` to the inner handle, and one to what counts. Assumes `Logic`.
use Rattle.std.proofs.Common.{ℕ, ◌+◌, [], ◌∷◌}
use seplogic.Ra.Ura.{Ura}
use base.Logic.{ent, sep, id⊢}
use base.Fml.{Lft}
use prog.Memory.{size, align, up}
use types.Logic.{Logic, sem}
use types.Kit.{‵, ◌$◌, ◌∵◌, !, qed, move, keep, use1, fsplit, done}
use denote.RattleType.{RattleType}
use denote.Memory.{hidden_shr}
use denote.Opens.{unhide}
use denote.Param.{layout, param}
use Rattle.std.proofs.alloc.Calls.{Al, α, seen}
use Rattle.fc_budget.proofs.Meters.{Me, lent}
use Rattle.fc_budget.specs.contracts.capped.Capped as capped

module _ (Z : Al) (W : Me) where
  abbrev pub Whole : RattleType
  Whole = capped.the_row (param 0 Z.row) (param 1 W.row)

  -- Where the handle lies, and what counts.
  abbrev pub inner_at : ℕ → ℕ
  inner_at o = o + up (align (α Z)) 0

  abbrev pub meter_at : ℕ → ℕ
  meter_at o = o + up (align (layout W.row)) (up (align (α Z)) 0 + size (α Z))

module _ (Z : Al) (W : Me) {M : Type 1} {𝓤 : Ura M} (𝓛 : Logic 𝓤) (κ : Lft) (b o : ℕ) (d : (Whole Z W).Denot) where
  pub lends_both : ent 𝓤 (sem 𝓛 (hidden_shr (Whole Z W) κ d b o))
      (sep 𝓤 (sem 𝓛 (lent W κ (b, meter_at Z W o) d.meter)) (sem 𝓛 (seen Z κ (b, inner_at Z W o) d.inner)))
  lends_both =
      qed 𝓛 (‵ (hidden_shr (Whole Z W) κ d b o) ∷ []) ∵
      unhide ! $ fsplit ! $ fsplit ! $ use1 𝓛 (‵ (seen Z κ (b, inner_at Z W o) d.inner)) (id⊢ 𝓤 _) $ move ! (1 ∷ []) $ fsplit ! $
      use1 𝓛 (‵ (lent W κ (b, meter_at Z W o) d.meter)) (id⊢ 𝓤 _) $ keep ! (0 ∷ 2 ∷ []) $ done !
