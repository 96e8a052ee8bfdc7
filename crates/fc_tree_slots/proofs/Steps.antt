-- The names that the walks of `raw` cite.
pub use Rattle.std.proofs.Common.{◌≡◌, ℕ, zero, suc, ◌+◌, ◌*◌, ◌^◌, ◌<◌, List, [], ◌∷◌, ◌++◌, map, length, replicate, set, get_or, Option, Some, None, refl}
pub use Rattle.std.proofs.Common.{sym, ap, ◌∙◌, subst, arith, w64}
pub use lib.ListN.{length-set, length-replicate}
pub use mathlib.Core.Bool.{true, false}
pub use seplogic.Ra.Ura.{Ura}
pub use mir.Syntax.{named}
pub use mir.Val.{Val, vptr, vint, vunit, vstruct, vcons, vnil, of_list}
pub use mir.MapTy.{inst_fn}
pub use base.Fraction.{full_share}
pub use base.Logic.{ent, emp, never, id⊢}
pub use base.Fml.{Lft, GName, Share, Fml, ftrue, fsep, fat, froom, flft, fobs, fbor}
pub use contract.BorrowLft.{◌⊑◌}
pub use contract.Monad.{fact, fact_i}
pub use contract.Running.{tables}
pub use prog.Wp.{WpFn}
pub use types.Logic.{Logic, sem}
pub use types.SemTy.{Body}
pub use types.Kit.{Item, Goal, Seq, Step, step, ‵, raw, some, given, later, prop, at_ret, ◌⊛◌, ◌$◌, ◌∵◌, !, qed, by, done, move, keep, drop, use0, use1, use2}
pub use types.Kit.{split, split3, join, group, pick, learn, await, rewrite, regoal, fsplit, fsplit3, fjoin, fjoin3, fpack, feq_i, feq_l, flt_i, flt_l}
pub use types.Part.{whole, sub, agg, look_in}
pub use types.Run.{enter, stop, fld, of_opd, addr, load, look, init, lit, unit_lit, bin, size_lit, size_word, align_word, and_then, no_more, first, blocks}
pub use types.Run.{exec, returns, assigns_last}
pub use types.ByLocal.{alloc_all, pass_all, free_all, look_at, get, get_in, through, sets, sets_last, is, env}
pub use denote.RattleType.{RattleType, owns}
pub use denote.Param.{layout}
pub use denote.RawPtr.{Ptr, block_ptr, ptr_val, in_a_block}
pub use denote.Signature.{types_at, Slot, plain}
pub use denote.Opens.{hide, unhide}
pub use denote.Steps.{nothing, heard, opens}
pub use denote.Triple.Walked.{Stays, stay_dropped, stay_ref, walk_of, Goes-dropped, Goes-spent_ref, Goes-ref}
pub use Rattle.std.proofs.raw_atomic.Walks.{proved_at, leaves}
pub use Rattle.std_alloc.proofs.RcSteps.{word, word-Good}
pub use Rattle.core.proofs.alloc.Shapes.{after}
pub use Rattle.core.proofs.mem.Param.{El, R, elτ}
pub use Rattle.core.proofs.alloc.Calls.{Al, token}
pub use Rattle.core.proofs.slots.Leases.{args, P}
use denote.Builtin.{unit}

-- the n-th parameter
abbrev pub param_at : {n : ℕ} → ℕ → List (Slot n) → Slot n
param_at k [] = plain (λ _. unit)
param_at zero (s ∷ ss) = s
param_at (suc k) (s ∷ ss) = param_at k ss
