-- The two parts of a tree that was cut are the whole.
use Rattle.std.proofs.Common.{◌≡◌, ℕ, ◌+◌, List, ◌++◌, length, Some, None, inl, inr, sym, ap, ◌∙◌, length-append}
use Rattle.fc_tree_node.specs.Tree.{Map, entries, IsSoundMap}
use Rattle.fc_tree_node.proofs.Gaps.{gap_pairs, place_pairs}
use Rattle.fc_tree_split.specs.Cut.{IsCutPathIn, IsCutInTwo}

pub cut_parts : {K V Z : Type 0} (m left right : Map K V Z) (path : List ℕ) → IsSoundMap m → IsCutPathIn path m → IsCutInTwo path m left right
    → entries left ++ entries right ≡ entries m
cut_parts None left right path sound way cut = absurd way
cut_parts (Some root) left right path sound (inl place) cut =
    let c = place_pairs path sound.0 root sound.2.1 place in
    rw (cut.left_of_pair c.pair c.is, cut.right_of_pair c.pair c.is) (sym c.parts)
cut_parts (Some root) left right path sound (inr gap) cut =
    rw (cut.left_of_gap gap, cut.right_of_gap gap) (sym (gap_pairs path sound.0 root sound.2.1 (gap.1 sound.0 sound.2.1) gap.0))

-- Two parts hold as many pairs as the whole.
pub parts_length : {X : Type 0} (front back whole : List X) → front ++ back ≡ whole → length front + length back ≡ length whole
parts_length front back whole e = sym (length-append front back) ∙ ap length e
