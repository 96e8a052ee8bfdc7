-- The law of the hash of lists of items, from that of items.
use Rattle.std.specs.Prelude.{Bool, drop}
use Rattle.std.proofs.Common.{ap}
use Rattle.std.specs.Cmp.Lexicographic.{pointwise}
use Rattle.std.specs.Hash.{HashWrites, Alike, items_Alike}
use Rattle.std.specs.List.{flat_map}

module _ {T : Type 0} where
  -- Equal lists feed the same: `items_Alike` says so with the length first.
  pub items_alike : {E : T → T → Bool} {F : T → HashWrites} → Alike E F → Alike (pointwise E) (flat_map F)
  items_alike a = record { fed = λ s t h. ap (drop 1) ((items_Alike a).fed s t h) }
