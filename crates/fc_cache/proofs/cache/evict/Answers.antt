use Rattle.std.proofs.Common.{refl}
use denote.Param.Always.{mut_next}
use Rattle.fc_cache.specs.Handed.{GivenEntry}
use Rattle.fc_cache.proofs.Evicted.{begun, never_none, within_all, one_more, ended, handed_all}
use Rattle.fc_cache.proofs.cache.evict.Goals as goal

pub entries-init : goal.entries-init
entries-init g c = record {
  callable = c.requires.callable;
  evicting = λ others stay is cost. begun (GivenEntry g.F.FnMut) _ others stay _ _ _ is cost;
}

pub returns-in_default-clause-entries : goal.returns-in_default-clause-entries
returns-in_default-clause-entries g c = λ others stay is cost.
    absurd (never_none (GivenEntry g.F.FnMut) _ others stay _ _ _ _ c.entries-test.true c.in_default.ensures.taken.0
    (c.entries.invariant.evicting others stay is cost))

pub returns-in_default-clause-handed : goal.returns-in_default-clause-handed
returns-in_default-clause-handed g c = λ others stay is cost.
    absurd (never_none (GivenEntry g.F.FnMut) _ others stay _ _ _ _ c.entries-test.true c.in_default.ensures.taken.0
    (c.entries.invariant.evicting others stay is cost))

pub returns-in_default-clause-within : goal.returns-in_default-clause-within
returns-in_default-clause-within g c =
    let s = c.requires.sum in
    absurd (never_none (GivenEntry g.F.FnMut) _ s.0 s.1 _ _ _ _ c.entries-test.true c.in_default.ensures.taken.0
    (c.entries.invariant.evicting s.0 s.1 s.2 s.3))

pub overflow_sub-used : goal.overflow_sub-used
overflow_sub-used g c =
    let s = c.requires.sum in
    within_all (GivenEntry g.F.FnMut) _ s.0 s.1 _ (c.in-Some.key, c.in-Some.held) _ _ _ _ c.entries-test.true c.in-Some.ensures.taken
    (c.entries.invariant.evicting s.0 s.1 s.2 s.3)

pub entries-preserved : goal.entries-preserved
entries-preserved g c = record {
  callable = mut_next g.F.FnMut _ _ _ _ _ c.f.ensures refl c.entries.invariant.callable;
  evicting = λ others stay is cost.
      one_more (GivenEntry g.F.FnMut) _ others stay _ (c.in-Some.key, c.in-Some.held) _ _ _ _ _ c.entries-test.true c.in-Some.ensures.taken
      (c.entries.invariant.evicting others stay is cost) c.f.ensures;
}

pub returns-clause-entries : goal.returns-clause-entries
returns-clause-entries g c = λ others stay is cost.
    ended (GivenEntry g.F.FnMut) _ others stay _ _ _ _ c.entries-test.false (c.entries.invariant.evicting others stay is cost)

pub returns-clause-handed : goal.returns-clause-handed
returns-clause-handed g c = λ others stay is cost.
    handed_all (GivenEntry g.F.FnMut) _ others stay _ _ _ _ c.entries-test.false (c.entries.invariant.evicting others stay is cost)
