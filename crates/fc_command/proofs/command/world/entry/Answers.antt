use Rattle.std.proofs.Common.{◌≡◌, ◌∙◌, Option, None, Some, length, refl, sym, ap, subst, rules}
use Rattle.std.specs.Option.{option_map, unwrap_or}
use Rattle.std.specs.Map.Calls.{ModifiesValue}
use denote.Ref.{MutBor}
use denote.Param.Members.{Once}
use Rattle.fc_base.specs.Growth.{MayGrowRefuse}
use Rattle.fc_map.specs.Entries.{entries}
use Rattle.fc_map.specs.Entry.{entry_pair, entry_value}
use Rattle.fc_command.specs.Step.{refused}
use Rattle.fc_command.proofs.command.world.entry.Goals as goal

unmapped : {X Y : Type 0} (f : X → Y) (o : Option X) → option_map f o ≡ None → o ≡ None
unmapped f None e = refl
unmapped f (Some x) e = absurd cc

module _ {F X R : Type 0} (g : Once F (MutBor X × Unit {0}) (R × (MutBor X × Unit {0}))) (f : F) where
  unmodified : (old new : Option X) → ModifiesValue g f old new → new ≡ None → old ≡ None
  unmodified None new m e = refl
  unmodified (Some v) None m e = absurd m
  unmodified (Some v) (Some w) m e = absurd cc

-- a new key was refused
pub returns-in-Err-or_try_insert : goal.returns-in-Err-or_try_insert
returns-in-Err-or_try_insert g c o =
    let why = c.in-Err-or_try_insert.ensures in
    let none = unmapped _ (entry_pair c.in-Ok.held) (unmodified _ _ (entry_value c.in-Ok.held) _ c.and_modify.ensures.update why.absent) in
    let absent = sym c.in-Ok.ensures.pair ∙ none in
    let key = sym why.back.0 ∙ c.and_modify.ensures.key ∙ c.in-Ok.ensures.key ∙ ap (λ o. Some (unwrap_or (option_map (λ p. p.0) o) c.args.key)) absent in
    let same_key : c.in-Err-or_try_insert.back.0 ≡ c.args.key = ap (λ o. unwrap_or o c.args.key) key in
    let same = c.and_modify.ensures.absent none ∙ c.in-Ok.ensures.map in
    let error = subst (λ m. MayGrowRefuse (length (entries m)) c.in-Err-or_try_insert.back.2) same why.error in
    refused c.in-Err-or_try_insert.back.2 (absent, error) (rw (same_key, why.back.1) refl, search rules, refl)
