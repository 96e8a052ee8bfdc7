use Rattle.std.proofs.Common.{◌<◌, ◌^◌, sym, ap, subst, ◌∙◌}
use Rattle.fc_map.specs.Entries.{entries}
use Rattle.arrayvec.proofs.IterLemmas.{rest_runs, rest_runs_back}
use Rattle.fc_set.proofs.ItemFacts.{keys, keys_length, ascending_keys}
use denote.Builtin.{unit}
use denote.Param.{param}
use Rattle.fc_map_iter.proofs.WalkSizes.{walk_fits}
use Rattle.fc_set.proofs.set.iter.BTreeSetIntoIterator.into_iter.Goals as goal

pub into_iter-requires : goal.into_iter-requires
into_iter-requires g c = walk_fits (param 0 g.row.T) unit g.row.A g.A.Allocator g.met.A.Handle.small

pub returns : goal.returns
returns g c =
    let w = c.into_iter.ensures.into_iter_gives in
    record {
      into_iter_gives = (
        ap keys (w.0 ∙ ap entries c.self.view_is),
        subst (λ n. n < 2 ^ 64) (sym (keys_length c.into_iter.result)) w.1,
        ascending_keys g.T.Ord.cmp c.into_iter.result w.2,
        rest_runs,
        rest_runs_back,
      );
    }
