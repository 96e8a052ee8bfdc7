-- A map in which a pair was put in the place of one with an equal key.
use Rattle.std.proofs.Common.{◌≡◌, ℕ, List, ◌∷◌, ◌++◌, Some, ◌∙◌, refl}
use Rattle.std.specs.Cmp.{IsTotalOrder}
use Rattle.std.specs.declared.cmp.Ordering.{Ordering}
use Rattle.std.proofs.lemmas.Cmp.{tied_itself}
use Rattle.fc_base.specs.Ascending.{IsAscending}
use Rattle.fc_base.specs.Joined.{placed}
use Rattle.fc_base.proofs.AscendingFacts.{asc_put}
use Rattle.fc_tree_node.specs.declared.node.Node.{Node}
use Rattle.fc_tree_node.specs.Node.{pairs_of}
use Rattle.fc_tree_node.specs.Place.{before_pair, after_pair}
use Rattle.fc_tree_search.specs.Found.{IsFound}
use Rattle.fc_tree_search.proofs.SearchFacts.{found_at}
use Rattle.fc_map.specs.Entries.{IsSoundMap}

module _ {K V : Type 0} (cmp : K → K → Ordering) where
  module _ {Z : Type 0} where
    -- The pairs before the place, the new pair and those after it are what `placed` makes.
    pub placed_in : (root : Node K V Z) (path : List ℕ) (pair : K × V) (s : List (K × V)) → IsSoundMap (Some root) → IsFound cmp pair.0 root path
        → s ≡ before_pair path root ++ pair ∷ after_pair path root → s ≡ placed cmp (pairs_of root) pair
    placed_in root path pair s sound found e = let a = found_at cmp pair.0 path sound.0 root sound.2.1 found in e ∙ rw (a.lower, a.upper) refl

  pub ascending_placed : IsTotalOrder cmp → (s : List (K × V)) (pair : K × V) → IsAscending cmp s → IsAscending cmp (placed cmp s pair)
  ascending_placed total s pair ascending = asc_put cmp total s ascending pair.0 pair (tied_itself total pair.0)
