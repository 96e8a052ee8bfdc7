use Rattle.std.proofs.Common.{◌+◌, ◌≤◌, [], length, refl, sym, ap, subst, inl, inr, arith}
use Rattle.std.proofs.lemmas.Result.{err_from_is_err_and}
use Rattle.std.proofs.lemmas.List.Sorted.{IsPermutation-refl}
use Rattle.std.specs.List.Sorted.{IsPermutation}
use Rattle.fc_base.specs.Copies.{MayRefusePair}
use Rattle.fc_vec.proofs.Refusals.{no_overflow}
use Rattle.fc_hash.specs.Pairs.{Hashed}
use Rattle.fc_hash.proofs.CopyFacts.{copy_refused, room_refused, one_more}
use Rattle.fc_hash.proofs.hashmap.copy.insert_copies.Goals as goal

pub pairs-init : goal.pairs-init
pairs-init g c = ([], [], refl, tt, subst (IsPermutation []) (sym c.requires.empty) (IsPermutation-refl []))

pub returns-in_err-key_copy-clause-error : goal.returns-in_err-key_copy-clause-error
returns-in_err-key_copy-clause-error g c =
    let p = err_from_is_err_and c.from_residual.result c.from_residual.ensures.1 in
    let m = c.pairs.invariant in
    rw (p.1, p.2) (copy_refused (MayRefusePair g.K.TryClone.may_refuse g.V.TryClone.may_refuse) _ c.args.walk m.0 c.pairs.walk c.next.new.self
    (c.in-Some.key.now, c.in-Some.value.now) m.2 c.in-Some.ensures.steps (inl c.in_err-key_copy.ensures))

pub returns-in_err-value_copy-clause-error : goal.returns-in_err-value_copy-clause-error
returns-in_err-value_copy-clause-error g c =
    let p = err_from_is_err_and c.from_residual-in_err-value_copy.result c.from_residual-in_err-value_copy.ensures.1 in
    let m = c.pairs.invariant in
    rw (p.1, p.2) (copy_refused (MayRefusePair g.K.TryClone.may_refuse g.V.TryClone.may_refuse) _ c.args.walk m.0 c.pairs.walk c.next.new.self
    (c.in-Some.key.now, c.in-Some.value.now) m.2 c.in-Some.ensures.steps (inr c.in_err-value_copy.ensures))

pub returns-in_err-insert-clause-error : goal.returns-in_err-insert-clause-error
returns-in_err-insert-clause-error g c =
    let p = err_from_is_err_and c.from_residual-in_err-insert.result c.from_residual-in_err-insert.ensures.1 in
    let m = c.pairs.invariant in
    let same = ap (λ (map : Hashed g.row.K.Denot g.row.V.Denot). length map.pairs) c.made.view_is in
    let short : length c.pairs.made.pairs + 1 ≤ 18446744073709551615 = omega (arith, same, c.len-len.ensures.len, c.len-len.ensures.small) in
    let no_memory = no_overflow 0 (length c.pairs.made.pairs) 1 _ short (omega arith, c.in_err-insert.ensures.error.2) in
    rw (p.1, p.2) (room_refused (MayRefusePair g.K.TryClone.may_refuse g.V.TryClone.may_refuse) _ c.args.walk m.0 c.pairs.walk c.next.new.self
    (c.in-Some.key.now, c.in-Some.value.now) m.2 c.in-Some.ensures.steps no_memory)

pub pairs-preserved-in_ok-insert : goal.pairs-preserved-in_ok-insert
pairs-preserved-in_ok-insert g c =
    let m = c.pairs.invariant in
    one_more g.K.PartialEq.eq g.met.K.Eq.laws g.K.TryClone.same g.V.TryClone.same c.requires.equal
    c.args.walk m.0 c.pairs.walk c.next.new.self m.1 c.pairs.made.pairs c.insert.new.self.pairs
    c.in-Some.key.now c.in_ok-key_copy.key_copy c.in-Some.value.now c.in_ok-value_copy.value_copy c.in_ok-insert.field-0
    c.requires.distinct m.2 c.in-Some.ensures.steps m.3 m.4 c.in_ok-key_copy.ensures c.in_ok-value_copy.ensures c.in_ok-insert.ensures.put

pub pairs-preserved : goal.pairs-preserved
pairs-preserved g c =
    let m = c.pairs.invariant in
    one_more g.K.PartialEq.eq g.met.K.Eq.laws g.K.TryClone.same g.V.TryClone.same c.requires.equal
    c.args.walk m.0 c.pairs.walk c.next.new.self m.1 c.pairs.made.pairs c.insert.new.self.pairs
    c.in-Some.key.now c.in_ok-key_copy.key_copy c.in-Some.value.now c.in_ok-value_copy.value_copy c.in_ok-insert.field-0
    c.requires.distinct m.2 c.in-Some.ensures.steps m.3 m.4 c.in_ok-key_copy.ensures c.in_ok-value_copy.ensures c.in_ok-insert.ensures.put
