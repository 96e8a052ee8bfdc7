use Rattle.std.proofs.Common.{◌∙◌, refl, ap}
use Rattle.fc_command.specs.declared.command.kinds.Kind.TheVariants.{OnMaps, OnSets}
use Rattle.fc_command.proofs.KindFacts.{step_of}
use Rattle.fc_command.proofs.command.world.World.step.Goals as goal

pub returns-in-OnMaps-First-default : goal.returns-in-OnMaps-First-default
returns-in-OnMaps-First-default g c =
    let w = c.in-OnMaps-First-default in
    step_of g.K.Ord.cmp _ _ _ _ _ _ _ _ c.of.ensures (w.is ∙ ap (λ side. OnMaps side w.command) w.field-0-is) (c.step_on.ensures, refl, refl)

pub returns-in-OnMaps-Second-default : goal.returns-in-OnMaps-Second-default
returns-in-OnMaps-Second-default g c =
    let w = c.in-OnMaps-Second-default in
    let done = c.step_on-in-OnMaps-Second-default.ensures in
    step_of g.K.Ord.cmp _ _ _ _ _ _ _ _ c.of.ensures (w.is ∙ ap (λ side. OnMaps side w.command) w.field-0-is) (done, refl, refl)

pub returns-in-OnSets-First-default : goal.returns-in-OnSets-First-default
returns-in-OnSets-First-default g c =
    let w = c.in-OnSets-First-default in
    step_of g.K.Ord.cmp _ _ _ _ _ _ _ _ c.of.ensures (w.is ∙ ap (λ side. OnSets side w.command) w.field-0-is) (c.step_set.ensures, refl, refl)

pub returns-in-OnSets-Second-default : goal.returns-in-OnSets-Second-default
returns-in-OnSets-Second-default g c =
    let w = c.in-OnSets-Second-default in
    let done = c.step_set-in-OnSets-Second-default.ensures in
    step_of g.K.Ord.cmp _ _ _ _ _ _ _ _ c.of.ensures (w.is ∙ ap (λ side. OnSets side w.command) w.field-0-is) (done, refl, refl)
