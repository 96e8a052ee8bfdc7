use Rattle.std.proofs.Common.{◌+◌, length, take, drop, arith, refl, sym, ap, subst}
use Rattle.std.proofs.lemmas.Result.{err_from_is_err_and}
use Rattle.fc_vec.specs.Joined.{joined}
use Rattle.fc_vec.specs.Vectors.{IsExtended, IsCopiedUpTo}
use Rattle.fc_vec.proofs.CopyFacts.{extended_on, refused_on, joined_more, joined_around, joined_length, length_extended}
use Rattle.fc_vec.proofs.vec.try_vec.copy.push_parts.Goals as goal

pub try_clone_all-requires-clause-room : goal.try_clone_all-requires-clause-room
try_clone_all-requires-clause-room g c =
    let v = c.loop-i.invariant in
    let part = c.index-parts-i.result in
    let long = joined_length c.args.parts.now c.loop-i.i part (omega (arith, c.loop-i-test.true, c.loop-i.invariant.0)) c.index-parts-i.is in
    let had = c.args.made.now.ok.0 in
    let has = c.loop-i.made.ok.0 in
    let grown = length_extended g.T.TryClone.same c.args.made.now.items (joined (take c.loop-i.i c.args.parts.now)) c.loop-i.made.items v.2 in
    omega (arith, had, has, grown, v.1, long.1, c.requires.room, ap length c.as_slice.ensures)

pub returns-in_err-try_clone_all-clause-error : goal.returns-in_err-try_clone_all-clause-error
returns-in_err-try_clone_all-clause-error g c =
    let p = err_from_is_err_and c.from_residual.result c.from_residual.ensures.1 in
    let parts = c.args.parts.now in
    let i = c.loop-i.i in
    let part = c.index-parts-i.result in
    let refused = subst (λ l. IsCopiedUpTo g.T.TryClone.same g.T.TryClone.may_refuse c.in_err-try_clone_all.field-0.0 c.loop-i.made.items l
    c.try_clone_all.new.copies.items) c.as_slice.ensures c.in_err-try_clone_all.ensures.error in
    rw (p.1, p.2) (refused_on g.T.TryClone.same g.T.TryClone.may_refuse _ c.args.made.now.items (joined (take i parts)) c.loop-i.made.items part.items
    (joined (drop (i + 1) parts)) (joined parts) c.try_clone_all.new.copies.items c.loop-i.invariant.2 refused
    (joined_around parts i part (omega (arith, c.loop-i-test.true, c.loop-i.invariant.0)) c.index-parts-i.is))

pub loop-i-preserved : goal.loop-i-preserved
loop-i-preserved g c =
    let v = c.loop-i.invariant in
    let parts = c.args.parts.now in
    let i = c.loop-i.i in
    let part = c.index-parts-i.result in
    let new = c.try_clone_all.new.copies in
    let more = subst (λ l. IsExtended g.T.TryClone.same c.loop-i.made.items l new.items) c.as_slice.ensures c.in_ok-try_clone_all.ensures.extended in
    let next = joined_more parts i part (omega (arith, c.loop-i-test.true, c.loop-i.invariant.0)) c.index-parts-i.is in
    let grown = subst (λ l. IsExtended g.T.TryClone.same c.args.made.now.items l new.items) (sym next)
    (extended_on g.T.TryClone.same c.args.made.now.items (joined (take i parts)) c.loop-i.made.items part.items new.items v.2 more) in
    (refl, omega (arith, v.1, c.try_clone_all.ensures.room), grown)
