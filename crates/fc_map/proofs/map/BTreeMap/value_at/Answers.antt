use Rattle.std.proofs.Common.{◌++◌, ◌∷◌, [], rules}
use Rattle.fc_map.proofs.WrittenFacts.{written_kept}
use Rattle.fc_map.proofs.map.BTreeMap.value_at.Goals as goal

pub invariant_of-self-lent : goal.invariant_of-self-lent
invariant_of-self-lent g c = λ w.
    written_kept c.self.inside.root c.unwrap-root.result.now (c.args.way.now ++ c.args.place ∷ []) w g.K.Ord.cmp _ (search rules) c.self.invariant
