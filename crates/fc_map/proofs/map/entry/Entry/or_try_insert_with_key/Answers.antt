use Rattle.std.proofs.Common.{◌≡◌, Result, Ok, Err, refl, sym, subst}
use Rattle.std.specs.Prelude.{IfOk, IfErr, OnErr}
use Rattle.std.specs.Fn.{FnOnceReturnsAt}
use Rattle.std.proofs.lemmas.Fn.{gave_at}
use Rattle.fc_map.proofs.map.entry.Entry.or_try_insert_with_key.Goals as goal

module _ {A E : Type 0} where
  if_ok : {P Q : A → Type 0} (r : Result A E) → ((a : A) → P a → Q a) → IfOk r P → IfOk r Q
  if_ok (Ok a) f p = f a p
  if_ok (Err e) f p = tt

  if_err : {P Q : E → Type 0} (r : Result A E) → ((e : E) → P e → Q e) → IfErr r P → IfErr r Q
  if_err (Ok a) f p = tt
  if_err (Err e) f p = f e p

  on_err : {P : Type 0} (r : Result A E) → P → OnErr r P
  on_err (Ok a) p = tt
  on_err (Err e) p = p

pub returns-in-Vacant : goal.returns-in-Vacant
returns-in-Vacant g c =
    let e = c.in-Vacant.entry in
    let t = c.try_insert in
    let Made : g.row.K.Denot → g.row.V.Denot → Type 0 = λ k w. FnOnceReturnsAt g.F.FnOnce c.args.make k w in
    let same : c.key.result.now ≡ e.key = let s = c.key.ensures in cc in
    let made : Made e.key c.make-value.result = subst (λ k. Made k c.make-value.result) same (gave_at g.F.FnOnce c.make-value.ensures refl) in
    rw c.in-Vacant.is (
      (refl, t.follows.holds, t.follows.holds-at-none),
      record {
        writes_back = tt;
        value = if_ok t.result (λ v s. subst (Made e.key) (sym s) made) t.ensures.value;
        absent = on_err t.result refl;
        back = if_err t.result (λ b s. (s.0, (let k : e.key ≡ b.0 = let s = s.0 in cc in subst (λ k. Made k b.1) k (subst (Made e.key) (sym s.1) made))))
            t.ensures.back;
        error = t.ensures.error;
        only_full = t.ensures.only_full;
        full = λ _. t.ensures.full;
      },
    )
