use Rattle.std.proofs.Common.{◌≡◌, ◌≤◌, ◌-◌, [], ◌∷◌, ◌++◌, length, reverse, option_map, IsOk, IfOk, IsSome, sym, ap, ◌∙◌, subst, arith}
use Rattle.std.proofs.lemmas.Result.{on_ok_weaker, on_err_weaker}
use Rattle.std.specs.List.{IsDistinct}
use Rattle.std.specs.Map.{keys_of, lookup, remove_entry}
use Rattle.fc_cache.specs.Entries.{key_at}
use Rattle.fc_cache.specs.Recent.{entries_of}
use Rattle.fc_cache.proofs.Reversed.{distinct_reversed, reversed, same_value}
use Rattle.fc_cache.proofs.Recent.{used_put}
use Rattle.fc_cache.proofs.recency.Recency.push.Goals as goal

pub returns-in-Some : goal.returns-in-Some
returns-in-Some g c =
    let test = g.K.PartialEq.eq c.args.key in
    let es = c.in-Some.ring.entries in
    let r = reversed test (g.met.K.Eq.laws.congr c.args.key) es c.push_to.ensures.distinct in
    let unbounded = rw c.in-Some.is at c.self.invariant in
    let few = c.push_to.ensures.few in
    let fits : length es ≤ c.in-Some.ring.cap - 1 = omega (arith, unbounded, few) in
    let were : reverse es ≡ entries_of c.self.inside.ring = ap entries_of (sym c.in-Some.is) in
    let found = same_value test es r ∙ ap (lookup test) were in
    rw (← c.self.view_is) (record {
      old = subst (λ v. IfOk c.push_to.result (λ old. old ≡ option_map (λ h. (c.args.key, h)) v)) found c.push_to.ensures.old;
      entries = on_ok_weaker c.push_to.result (λ put. ap (λ l. reverse l.entries) put ∙ used_put test es r _ fits c.args.key c.args.held
          ∙ (λ i. remove_entry test (were i) ++ (key_at test (were i) c.args.key, c.args.held) ∷ [])) c.push_to.ensures.entries;
      back = c.push_to.ensures.back;
      unchanged = on_err_weaker c.push_to.result (λ same. ap (λ l. reverse l.entries) same ∙ were) c.push_to.ensures.unchanged;
      succeeds = subst (λ v. IsSome v → IsOk c.push_to.result) found c.push_to.ensures.succeeds;
      distinct = subst (λ l. IsDistinct g.K.PartialEq.eq (keys_of l)) were (distinct_reversed g.met.K.Eq.laws es c.push_to.ensures.distinct);
    })

pub returns-in_default-clause-distinct : goal.returns-in_default-clause-distinct
unfolding IsDistinct
returns-in_default-clause-distinct g c =
    let none : [] ≡ c.args.self.now.entries = ap entries_of (sym c.in-None.is) ∙ ap (λ v. v.entries) c.self.view_is in
    subst (λ l. IsDistinct g.K.PartialEq.eq (keys_of l)) none tt
