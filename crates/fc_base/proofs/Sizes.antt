-- How the sizes of a tree hang together: what holds for these numbers, and would not for any.
use Rattle.std.proofs.Common.{◌≡◌, ◌+◌, ◌*◌, ◌^◌, ◌<◌, ◌≤◌, refl, lit<, lit≤}
use Rattle.fc_base.specs.Sizes.{capacity, min_len, most_children, least_children, most_levels, most_height, level_comparisons, level_moves, most_split_moves}

-- A full node and one pair more are a pair between two halves, one of which has the fewest pairs and the other one more.
pub two_halves : capacity + 1 ≡ min_len + 1 + (min_len + 1)
two_halves = refl

-- There is a child on either side of each pair.
pub child_more : most_children ≡ capacity + 1
child_more = refl

pub least_child_more : least_children ≡ min_len + 1
least_child_more = refl

-- A full node has children for two nodes.
pub children_for_two : 2 * least_children ≤ most_children
children_for_two = lit≤ tt

-- The leaves are a level.
pub leaves_are_one : most_levels ≡ most_height + 1
leaves_are_one = refl

-- A tree of one level more has too many pairs for 64 bits.
pub levels_enough : 2 ^ 64 < 2 * least_children ^ most_levels
levels_enough = lit< tt

-- A search compares with each pair of a node at most.
pub pairs_compared : capacity ≤ level_comparisons
pairs_compared = lit≤ tt

-- A split moves at most each pair and the new one.
pub moves_of_split : most_split_moves ≡ capacity + 1
moves_of_split = refl

-- A merge moves at most the node's own pairs, those of the child on the right, and the one between. Where one child is a pair too short, the other has at most
-- one more than the fewest.
pub moves_of_merge : level_moves ≡ capacity + (min_len + 1) + 1
moves_of_merge = refl

-- A pair's place fits a byte.
pub places_small : most_children < 256
places_small = lit< tt

-- A number of pairs has no more digits, where the base is the most children of a node, than there are levels above the leaves.
pub digits_enough : 2 ^ 64 < most_children ^ most_height
digits_enough = lit< tt
