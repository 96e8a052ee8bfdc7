use Rattle.std.proofs.Common.{◌≡◌, fold}
use Rattle.std.specs.List.{flat_map}
use Rattle.fc_map.specs.Compare.{pair_input}
use Rattle.fc_map.specs.Entries.{entries}
use Rattle.fc_map.proofs.map.compare.BTreeMapHash.hash.Given as goal

abbrev pub invariant-loop-key : goal.invariant-loop-key
invariant-loop-key g l =
    fold g.H.Hasher.write l.state (flat_map (pair_input g.K.Hash.hash_input g.V.Hash.hash_input) l.key-iterator)
    ≡ fold g.H.Hasher.write l.initial.state (flat_map (pair_input g.K.Hash.hash_input g.V.Hash.hash_input) (entries l.fn.self))
