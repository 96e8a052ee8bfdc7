-- How many nodes a tree takes that grows at its right end.
use Rattle.std.specs.Prelude.{◌≡◌, ℕ, zero, suc, ◌+◌, ◌*◌, ◌/◌, ◌^◌, ◌<◌, ◌≤◌, List, [], ◌∷◌, length, min, nat_le, if◌then◌else◌}
use Rattle.fc_base.specs.Sizes.{capacity, most_children, most_height, most_levels}
use Rattle.fc_tree_node.specs.declared.node.Node.{Node}
use Rattle.fc_tree_node.specs.Node.{own_pairs}
use Rattle.fc_tree_node.specs.Requests.{list_requests}

-- How many leaves n pairs need at most: a full leaf, and the pair that stands after it, are as many pairs as a node has
-- children.
abbrev pub leaves_for : ℕ → ℕ
leaves_for zero = 0
leaves_for (suc n) = suc n / most_children + 1

-- How many inner nodes so many subtrees take that are put one after another at the end of a tree, each with the pair after it, where those
-- nodes have at most d levels: right above the subtrees one for as many as a node has children, and one more; and those above these.
abbrev pub inner_above : ℕ → ℕ → ℕ
inner_above zero n = 0
inner_above (suc d) zero = 0
inner_above (suc d) (suc n) = suc n / most_children + 1 + inner_above d (suc n / most_children)

-- How many inner nodes a tree of n pairs has that is made of them in order, where each leaf but the last is full.
abbrev pub inner_for : ℕ → ℕ
inner_for n = inner_above most_levels (n / most_children)

-- How many requests a builder for n pairs makes that is given its leaves: for two leaves at most and for all inner nodes, each with a list.
abbrev pub given_requests : ℕ → ℕ
given_requests n = list_requests 1 (min (leaves_for n) 2) + list_requests 2 (inner_for n)

module _ {K V Z : Type 0} where
  -- How many pairs stand in the nodes themselves.
  abbrev pub own_count : List (Node K V Z) → ℕ
  own_count [] = 0
  own_count (b ∷ s) = length (own_pairs b) + own_count s

  -- The numbers of the nodes' own pairs as the digits of a number, whose base is the most children of a node, after the digits of
  -- another one.
  abbrev pub digits_after : ℕ → List (Node K V Z) → ℕ
  digits_after a [] = a
  digits_after a (b ∷ s) = digits_after (most_children * a + length (own_pairs b)) s

  -- The numbers of the nodes' own pairs as the digits of a number.
  abbrev pub worth : List (Node K V Z) → ℕ
  worth s = digits_after 0 s

  -- How many inner nodes one more subtree at the spine's end takes, where one above these nodes takes so many: an empty one for each of
  -- the full nodes at the end, and one for a new root where there is none with room.
  abbrev pub needed_after : ℕ → List (Node K V Z) → ℕ
  needed_after a [] = a
  needed_after a (b ∷ s) = needed_after (if nat_le capacity (length (own_pairs b)) then suc a else 0) s

  -- How many inner nodes one more subtree at the spine's end takes.
  abbrev pub needed : List (Node K V Z) → ℕ
  needed s = needed_after 1 s

  -- The nodes are as few as they can be: the first has a pair, so that the digits are no more than the number needs.
  abbrev pub IsShort : List (Node K V Z) → Type 0
  IsShort s = most_children ^ length s ≤ most_children * worth s + 1

  -- There are as many spare nodes as so many more subtrees at the spine's end take, and no more; the tree is then not too high.
  abbrev pub IsEnough : ℕ → ℕ → List (Node K V Z) → Type 0
  IsEnough spares more s = (length s ≤ most_height) × IsShort s × (worth s + more < most_children ^ most_height)
      × (spares + inner_above most_levels (worth s) ≡ inner_above most_levels (worth s + more))
