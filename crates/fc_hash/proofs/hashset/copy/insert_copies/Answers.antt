use Rattle.std.proofs.Common.{◌+◌, ◌≤◌, [], length, refl, sym, ap, subst, inr, arith}
use Rattle.std.proofs.lemmas.Result.{err_from_is_err_and}
use Rattle.std.proofs.lemmas.List.Sorted.{IsPermutation-refl}
use Rattle.std.specs.List.Sorted.{IsPermutation}
use Rattle.fc_vec.proofs.Refusals.{no_overflow}
use Rattle.fc_hash.specs.Items.{HashedSet}
use Rattle.fc_hash.proofs.CopyFacts.{copy_refused, room_refused}
use Rattle.fc_hash.proofs.ItemFacts.{one_item_more}
use Rattle.fc_hash.proofs.hashset.copy.insert_copies.Goals as goal

pub items-init : goal.items-init
items-init g c = ([], [], refl, tt, subst (IsPermutation []) (sym c.requires.empty) (IsPermutation-refl []))

pub returns-in_err-copy-clause-error : goal.returns-in_err-copy-clause-error
returns-in_err-copy-clause-error g c =
    let p = err_from_is_err_and c.from_residual.result c.from_residual.ensures.1 in
    let m = c.items.invariant in
    rw (p.1, p.2) (copy_refused g.T.TryClone.may_refuse _ c.args.walk m.0 c.items.walk c.next.new.self c.in-Some.item.now m.2 c.in-Some.ensures.steps
    c.in_err-copy.ensures)

pub returns-in_err-insert-clause-error : goal.returns-in_err-insert-clause-error
returns-in_err-insert-clause-error g c =
    let p = err_from_is_err_and c.from_residual-in_err-insert.result c.from_residual-in_err-insert.ensures.1 in
    let m = c.items.invariant in
    let same = ap (λ (set : HashedSet g.row.T.Denot). length set.items) c.made.view_is in
    let short : length c.items.made.items + 1 ≤ 18446744073709551615 = omega (arith, same, c.len-len.ensures.len, c.len-len.ensures.small) in
    let no_memory = no_overflow 0 (length c.items.made.items) 1 _ short (omega arith, c.in_err-insert.ensures.error.2) in
    rw (p.1, p.2) (room_refused g.T.TryClone.may_refuse _ c.args.walk m.0 c.items.walk c.next.new.self c.in-Some.item.now m.2 c.in-Some.ensures.steps no_memory)

pub items-preserved : goal.items-preserved
items-preserved g c =
    let m = c.items.invariant in
    one_item_more g.T.PartialEq.eq g.met.T.Eq.laws g.T.TryClone.same c.requires.equal c.args.walk m.0 c.items.walk c.next.new.self m.1
    c.items.made.items c.insert.new.self.items c.in-Some.item.now c.in_ok-copy.copy c.requires.distinct m.2 c.in-Some.ensures.steps m.3 m.4
    c.in_ok-copy.ensures c.in_ok-insert.ensures.put
