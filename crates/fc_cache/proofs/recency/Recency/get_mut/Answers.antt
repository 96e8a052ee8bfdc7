use Rattle.std.proofs.Common.{◌≡◌, reverse, option_map, sym, ap, ◌∙◌, inr}
use Rattle.std.specs.Map.{lookup}
use Rattle.fc_cache.specs.Entries.{used_last}
use Rattle.fc_cache.specs.Recent.{entries_of}
use Rattle.fc_cache.specs.Written.{with_value}
use Rattle.fc_cache.proofs.Reversed.{reversed, same_value}
use Rattle.fc_cache.proofs.Written.{lent_alike, written_last}
use Rattle.fc_cache.proofs.recency.Recency.get_mut.Goals as goal

pub returns-in_err-held : goal.returns-in_err-held
returns-in_err-held g c =
    let test = g.Q.Equivalent.equivalent c.args.key in
    let es = c.in_ok-ring.ring.now.entries in
    let r = reversed test (g.met.Q.Equivalent.respects_eq c.args.key) es c.len-known.ensures.valid.0 in
    let were : reverse es ≡ c.args.self.now.entries = ap entries_of c.in_ok-ring.ensures.value ∙ ap (λ v. v.entries) c.self.view_is in
    let found = c.in_err-held.ensures.value ∙ same_value test es r ∙ ap (lookup test) were in
    rw (c.from_residual-in_err-held.ensures) (λ i. inr (record { entries = were i }), record { writes_back = tt; value = ap (option_map (λ h. h.value)) found })

pub returns : goal.returns
returns g c =
    let test = g.Q.Equivalent.equivalent c.args.key in
    let es = c.in_ok-ring.ring.now.entries in
    let distinct = c.len-known.ensures.valid.0 in
    let r = reversed test (g.met.Q.Equivalent.respects_eq c.args.key) es distinct in
    let were : reverse es ≡ c.args.self.now.entries = ap entries_of c.in_ok-ring.ensures.value ∙ ap (λ v. v.entries) c.self.view_is in
    let found = sym c.in_ok-held.ensures.value in
    let done = λ (w : g.row.V.Denot).
    written_last test w (g.met.Q.Equivalent.respects_eq c.args.key) g.met.K.Eq.laws es distinct _ found
    ∙ (λ i. with_value test (used_last test (were i)) w) in (
      lent_alike (λ i w. record { entries = done w i }),
      record {
        writes_back = tt;
        value = ap (option_map (λ h. h.value)) (c.in_ok-held.ensures.value ∙ same_value test es r ∙ ap (lookup test) were);
      },
    )
