use Rattle.std.proofs.Common.{◌≡◌, [], reverse, ap, ◌∙◌, subst}
use Rattle.std.specs.List.{IsDistinct}
use Rattle.std.specs.Map.{keys_of, lookup}
use Rattle.fc_cache.specs.Recent.{entries_of}
use Rattle.fc_cache.proofs.Reversed.{distinct_reversed, reversed, same_value}
use Rattle.fc_cache.proofs.recency.Recency.peek.Goals as goal

pub returns : goal.returns
returns g c =
    let test = g.Q.Equivalent.equivalent c.args.key in
    let es = c.in_ok-ring.ring.now.entries in
    let r = reversed test (g.met.Q.Equivalent.respects_eq c.args.key) es c.len-known.ensures.valid.0 in
    let were : reverse es ≡ c.args.self.now.entries = ap entries_of c.in_ok-ring.ensures.value ∙ ap (λ v. v.entries) c.self.view_is in
    record {
      value = c.peek.ensures ∙ same_value test es r ∙ ap (lookup test) were;
      distinct = subst (λ l. IsDistinct g.K.PartialEq.eq (keys_of l)) were (distinct_reversed g.met.K.Eq.laws es c.len-known.ensures.valid.0);
    }

pub returns-in_err-ring-clause-distinct : goal.returns-in_err-ring-clause-distinct
unfolding IsDistinct
returns-in_err-ring-clause-distinct g c =
    let none : [] ≡ c.args.self.now.entries = ap entries_of c.in_err-ring.ensures.value ∙ ap (λ v. v.entries) c.self.view_is in
    subst (λ l. IsDistinct g.K.PartialEq.eq (keys_of l)) none tt
