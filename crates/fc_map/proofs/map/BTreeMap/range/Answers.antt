use Rattle.fc_base.proofs.Within.{within_fits}
use Rattle.fc_map.proofs.map.BTreeMap.range.Goals as goal

pub returns-clause-fits : goal.returns-clause-fits
returns-clause-fits g c = within_fits g.R.KeyRange.order _ _ _ _ _ _ c.within.ensures c.self.invariant.2 c.if-prove.false
