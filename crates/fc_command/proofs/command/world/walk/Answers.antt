use Rattle.std.proofs.Common.{◌≡◌, ◌∙◌, rules, refl, ap, subst, sym, true, if◌then◌else◌}
use Rattle.std.specs.Prelude.{IsTrue}
use Rattle.fc_base.specs.Ranges.{is_range, within}
use Rattle.fc_lines.specs.declared.command.Reply.TheVariants.{Pairs, BadRange}
use Rattle.fc_map.specs.Entries.{entries}
use Rattle.fc_command.specs.Step.{answered, refused}
use Rattle.fc_command.specs.Walks.{walked}
use Rattle.fc_command.proofs.command.world.walk.Goals as goal

pub returns-in-Ok : goal.returns-in-Ok
returns-in-Ok g c o =
    let range : is_range g.K.Ord.cmp c.args.lo c.args.hi ≡ true = search rules in
    let pairs : c.range.result ≡ within g.K.Ord.cmp c.args.lo c.args.hi (entries c.args.map.now) = search rules in
    let steps = walked (within g.K.Ord.cmp c.args.lo c.args.hi (entries c.args.map.now)) c.args.ends in
    let given = c.from.ensures ∙ rw (pairs, c.as_slice.ensures) at c.in-Ok.ensures.steps in
    answered (λ no. no) (subst (λ b. Pairs c.from.result ≡ (if b then Pairs steps else BadRange)) (sym range) (ap Pairs given), refl, refl)

-- room or a copy was refused
pub returns : goal.returns
returns g c o =
    let range : IsTrue (is_range g.K.Ord.cmp c.args.lo c.args.hi) = search rules in
    let pairs : c.range.result ≡ within g.K.Ord.cmp c.args.lo c.args.hi (entries c.args.map.now) = search rules in
    refused c.in-Err.e (range, rw (pairs, c.as_slice.ensures) at c.in-Err.ensures.error) (refl, refl, refl)
