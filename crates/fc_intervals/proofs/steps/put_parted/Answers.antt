use Rattle.std.proofs.Common.{◌∙◌, sym, ap, subst}
use Rattle.fc_base.specs.Parts.{below}
use Rattle.fc_laws.proofs.NeighbourLaws.{below_put}
use Rattle.fc_map.specs.Entries.{entries}
use Rattle.fc_intervals.specs.Stretches.{AreApart}
use Rattle.fc_intervals.proofs.steps.put_parted.Goals as goal

pub end_at-requires : goal.end_at-requires
end_at-requires g c =
    subst (AreApart g.K.Ord.cmp) (sym (ap (λ l. below g.K.Ord.cmp l c.args.from) c.in_default.ensures.put
    ∙ below_put g.K.Ord.cmp (entries c.args.map.now) c.args.from c.args.stretch g.met.K.Ord.total)) c.requires
