use Rattle.std.proofs.Common.{ap, ◌∙◌}
use Rattle.std.specs.Cmp.Lexicographic.{slice_partial_cmp}
use Rattle.fc_map.specs.Compare.{pair_partial_cmp}
use Rattle.fc_map.specs.Entries.{entries}
use Rattle.fc_map.proofs.map.compare.BTreeMapPartialOrd.partial_cmp.Goals as goal

pub returns : goal.returns
returns g c =
    let order = slice_partial_cmp (pair_partial_cmp g.K.PartialOrd.partial_cmp g.V.PartialOrd.partial_cmp) in
    c.partial_order.ensures ∙ ap (λ xs. order xs c.iter-2.result) c.iter.ensures.pairs ∙ ap (order (entries c.args.self.now)) c.iter-2.ensures.pairs
