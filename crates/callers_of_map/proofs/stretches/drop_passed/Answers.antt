use Rattle.std.proofs.Common.{rules, ◌≡◌, ◌∙◌, ℕ, ap, filter, nat_le}
use Rattle.std.specs.Ordering.{nat_cmp}
use Rattle.std.specs.declared.ops.Bound.TheVariants.{Included, Excluded}
use Rattle.fc_laws.specs.Words.{entries, within, replacing}
use Rattle.fc_laws.proofs.Laws.{staying_are}
use Rattle.callers_of_map.proofs.stretches.drop_passed.Goals as goal

pub returns : goal.returns
returns c =
    let stays = λ (e : ℕ × ℕ). nat_le c.args.now e.1 in
    let retained = c.retain_range.ensures.retained in
    retained.3 ∙ ap (λ s. replacing nat_cmp (Included c.args.from) (Excluded c.args.to) s (entries c.args.map.now))
    (staying_are _ (λ f. f.0.now ≡ c.args.now) stays (λ f g e w b made r. search rules) _ _ _ _ (search rules) retained.2)
