use Rattle.std.proofs.Common.{refl}
use denote.Param.Always.{mut_next}
use Rattle.fc_intervals.specs.Handed.{GivenStretch}
use Rattle.fc_intervals.proofs.Handed.{all_handed, none_handed, one_more, up_to}
use Rattle.fc_intervals.proofs.steps.handed.hand_starting.Goals as goal

pub stretches-init : goal.stretches-init
stretches-init g c = record {
  callable = c.requires.callable;
  handed = none_handed g.K.Ord.cmp c.args.from c.args.to (GivenStretch g.F.FnMut) _ _;
}

pub stretches-preserved : goal.stretches-preserved
stretches-preserved g c = record {
  callable = mut_next g.F.FnMut _ _ _ _ _ c.f.ensures refl c.stretches.invariant.callable;
  handed = one_more g.K.Ord.cmp c.args.from c.args.to (GivenStretch g.F.FnMut) _ _ _ _ _ _ _
      c.stretches.invariant.handed c.in-Some.ensures.taken c.take_first.ensures.rest
      (up_to g.K.Ord.cmp c.args.from c.args.to g.F.FnMut _ _ _ _ c.min.ensures c.f.ensures);
}

pub returns-clause-rest : goal.returns-clause-rest
returns-clause-rest g c =
    (all_handed g.K.Ord.cmp c.args.from c.args.to (GivenStretch g.F.FnMut) _ _ _ _ _ c.stretches.invariant.handed c.in_default.ensures.unchanged
    c.in_default.ensures.none).0

pub returns-clause-handed : goal.returns-clause-handed
returns-clause-handed g c =
    (all_handed g.K.Ord.cmp c.args.from c.args.to (GivenStretch g.F.FnMut) _ _ _ _ _ c.stretches.invariant.handed c.in_default.ensures.unchanged
    c.in_default.ensures.none).1
