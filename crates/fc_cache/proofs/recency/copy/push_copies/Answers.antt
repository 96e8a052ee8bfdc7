use Rattle.std.proofs.Common.{[], refl, sym, subst, inl, inr}
use Rattle.std.proofs.lemmas.Result.{err_from_is_err_and}
use Rattle.fc_base.specs.Copies.{MayRefusePair}
use Rattle.fc_cache.specs.Copied.{AreCopies}
use Rattle.fc_cache.proofs.Copied.{copy_refused, one_more}
use Rattle.fc_cache.proofs.recency.copy.push_copies.Goals as goal

pub entries-init : goal.entries-init
entries-init g c = ([], refl, subst (AreCopies g.K.TryClone.same g.V.TryClone.same []) (sym c.requires.empty) tt)

pub returns-in_err-key_copy-clause-error : goal.returns-in_err-key_copy-clause-error
returns-in_err-key_copy-clause-error g c =
    let p = err_from_is_err_and c.from_residual.result c.from_residual.ensures.1 in
    let m = c.entries.invariant in
    rw (p.1, p.2) (copy_refused (MayRefusePair g.K.TryClone.may_refuse (λ h. g.V.TryClone.may_refuse h.value)) _ c.args.walk m.0 c.entries.walk
    c.next_back.new.self (c.in-Some.key.now, c.in-Some.held.now) m.1 c.in-Some.ensures.steps (inl c.in_err-key_copy.ensures))

pub returns-in_err-value-clause-error : goal.returns-in_err-value-clause-error
returns-in_err-value-clause-error g c =
    let p = err_from_is_err_and c.from_residual-in_err-value.result c.from_residual-in_err-value.ensures.1 in
    let m = c.entries.invariant in
    rw (p.1, p.2) (copy_refused (MayRefusePair g.K.TryClone.may_refuse (λ h. g.V.TryClone.may_refuse h.value)) _ c.args.walk m.0 c.entries.walk
    c.next_back.new.self (c.in-Some.key.now, c.in-Some.held.now) m.1 c.in-Some.ensures.steps (inr c.in_err-value.ensures))

pub entries-preserved-in-Ok : goal.entries-preserved-in-Ok
entries-preserved-in-Ok g c =
    let m = c.entries.invariant in
    one_more g.K.PartialEq.eq g.met.K.Eq.laws g.K.TryClone.same g.V.TryClone.same c.requires.equal c.args.walk m.0 c.entries.walk c.next_back.new.self
    c.entries.made.entries c.push.new.self.entries (c.in-Some.key.now, c.in-Some.held.now)
    (c.in_ok-key_copy.key_copy, record { value = c.in_ok-value.value; cost = c.in-Some.held.now.cost }) c.requires.distinct m.1 c.in-Some.ensures.steps m.2
    c.in_ok-key_copy.ensures c.in_ok-value.ensures refl c.in-Ok.ensures.entries

pub entries-preserved : goal.entries-preserved
entries-preserved g c =
    let m = c.entries.invariant in
    one_more g.K.PartialEq.eq g.met.K.Eq.laws g.K.TryClone.same g.V.TryClone.same c.requires.equal c.args.walk m.0 c.entries.walk c.next_back.new.self
    c.entries.made.entries c.push.new.self.entries (c.in-Some.key.now, c.in-Some.held.now)
    (c.in_ok-key_copy.key_copy, record { value = c.in_ok-value.value; cost = c.in-Some.held.now.cost }) c.requires.distinct m.1 c.in-Some.ensures.steps m.2
    c.in_ok-key_copy.ensures c.in_ok-value.ensures refl c.in-Ok.ensures.entries
