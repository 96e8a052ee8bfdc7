use Rattle.std.proofs.Common.{◌≡◌, [], reverse, refl, sym, ap, ◌∙◌, subst}
use Rattle.std.specs.List.{IsDistinct}
use Rattle.std.specs.Option.{option_copied}
use Rattle.std.specs.Map.{keys_of, lookup}
use Rattle.fc_cache.specs.Entries.{used_last}
use Rattle.fc_cache.specs.Recent.{entries_of}
use Rattle.fc_cache.proofs.Reversed.{distinct_reversed, reversed, same_value}
use Rattle.fc_cache.proofs.Recent.{used_promoted}
use Rattle.fc_cache.proofs.recency.Recency.get.Goals as goal

pub returns : goal.returns
returns g c =
    let test = g.Q.Equivalent.equivalent c.args.key in
    let es = c.in_ok-ring.ring.now.entries in
    let r = reversed test (g.met.Q.Equivalent.respects_eq c.args.key) es c.len-known.ensures.valid.0 in
    let were : reverse es ≡ c.args.self.now.entries = ap entries_of c.in_ok-ring.ensures.value ∙ ap (λ v. v.entries) c.self.view_is in
    let used : reverse c.get.follows.lender-at-none.entries ≡ used_last test c.args.self.now.entries =
    ap (λ l. reverse l.entries) c.get.follows.holds-at-none ∙ used_promoted test es r ∙ ap (used_last test) were in (
      (refl, λ _. tt, λ i. record { entries = used i }),
      record {
        used = tt;
        value = c.get.ensures.value ∙ same_value test es r ∙ ap (lookup test) were;
        distinct = subst (λ l. IsDistinct g.K.PartialEq.eq (keys_of l)) were (distinct_reversed g.met.K.Eq.laws es c.len-known.ensures.valid.0);
      },
    )

pub returns-in_err-ring : goal.returns-in_err-ring
unfolding IsDistinct
returns-in_err-ring g c =
    let test = g.Q.Equivalent.equivalent c.args.key in
    let none : [] ≡ c.args.self.now.entries = ap entries_of c.in_err-ring.ensures.value ∙ ap (λ v. v.entries) c.self.view_is in
    let view : entries_of c.self.inside.ring ≡ c.args.self.now.entries = ap (λ v. v.entries) c.self.view_is in
    let used = view ∙ sym none ∙ ap (used_last test) none in (
      (refl, λ _. tt, λ i. record { entries = used i }),
      record {
        used = tt;
        value = ap option_copied c.from_residual.ensures ∙ ap (lookup test) none;
        distinct = subst (λ l. IsDistinct g.K.PartialEq.eq (keys_of l)) none tt;
      },
    )
