-- The map after an insertion that was made ready.
use Rattle.std.proofs.Common.{◌≡◌, ℕ, List, ◌∷◌, ◌++◌, Some, None, refl, sym, ◌∙◌}
use Rattle.fc_tree_node.proofs.Gaps.{place_pairs}
use Rattle.fc_map.specs.Entries.{Map, entries, IsSoundMap}
use Rattle.fc_map.specs.Place.{IsPutIn}

module _ {K V Z : Type 0} where
  -- The list of a map in which a pair stands between known pairs.
  pub put_list : (m : Map K V Z) (path : List ℕ) (p : K × V) (front back : List (K × V)) → IsSoundMap m → IsPutIn path m p front back
      → entries m ≡ front ++ p ∷ back
  put_list None path p front back sound put = absurd put
  put_list (Some root) path p front back sound put =
      let c = place_pairs path sound.0 root sound.2.1 put.place in
      let there : Some c.pair ≡ Some p = sym c.is ∙ put.pair_is in
      let same : c.pair ≡ p = cc in
      c.parts ∙ rw (put.before, put.after, same) refl
