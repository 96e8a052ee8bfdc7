-- The copy of a tree ascends as the tree does, and is as sound.
use Rattle.std.proofs.Common.{◌≡◌, ◌^◌, ◌<◌, ◌≤◌, List, [], ◌∷◌, length, Some, sym, ◌∙◌, arith, lit<}
use Rattle.std.proofs.Math.Nat.{pow-le-pow_right}
use Rattle.std.specs.List.{AllZip, AllByRecursion}
use Rattle.std.specs.Cmp.{IsTotalOrder}
use Rattle.std.specs.declared.cmp.Ordering.{Ordering}
use Rattle.std.specs.declared.cmp.Ordering.TheVariants.{Less, Equal}
use Rattle.std.proofs.lemmas.List.Elements.{length_all_zip}
use Rattle.fc_base.specs.Ascending.{IsAscending}
use Rattle.fc_base.specs.Sizes.{least_children}
use Rattle.fc_base.specs.Viewed.{over_one}
use Rattle.fc_base.proofs.AscendingFacts.{under_one}
use Rattle.fc_tree_node.specs.declared.node.Node.{Node}
use Rattle.fc_tree_node.specs.Node.{own_pairs, pairs_of}
use Rattle.fc_tree_node.proofs.DepthFacts.{deep_root}
use Rattle.fc_tree_copy.specs.Copy.{AreSame, IsCopy}
use Rattle.fc_tree_node.specs.Tree.{IsSoundMap}

module _ {K V : Type 0} (cmp : K → K → Ordering) (total : IsTotalOrder cmp) (same_key : K → K → Type 0) (same_value : V → V → Type 0)
    (equal : (a b : K) → same_key a b → cmp a b ≡ Equal) where
  -- a key stands to a later one as their copies stand
  still_below : (a b x y : K) → same_key a b → same_key x y → cmp a x ≡ Less → cmp b y ≡ Less
  still_below a b x y s t less = sym (total.congr a b y (equal a b s))
      ∙ under_one cmp total a y (sym (total.congr x y a (equal x y t)) ∙ over_one cmp total a x less)

  later_copied : (a b : K) → same_key a b → (s t : List (K × V)) → AllZip (AreSame same_key same_value) s t → AllByRecursion (λ later. cmp a later.0 ≡ Less) s
      → AllByRecursion (λ later. cmp b later.0 ≡ Less) t
  later_copied a b e [] [] z l = tt
  later_copied a b e [] (q ∷ t) z l = absurd z
  later_copied a b e (p ∷ s) [] z l = absurd z
  later_copied a b e (p ∷ s) (q ∷ t) z l = (still_below a b p.0 q.0 e z.0.0 l.0, later_copied a b e s t z.1 l.1)

  -- Copies of ascending pairs ascend, where copies of keys are equal to them.
  pub ascending_copied : (s t : List (K × V)) → AllZip (AreSame same_key same_value) s t → IsAscending cmp s → IsAscending cmp t
  ascending_copied [] [] z a = tt
  ascending_copied [] (q ∷ t) z a = absurd z
  ascending_copied (p ∷ s) [] z a = absurd z
  ascending_copied (p ∷ s) (q ∷ t) z a = (later_copied p.0 q.0 z.0.0 s t z.1 a.0, ascending_copied s t z.1 a.1)

module _ {K V Z : Type 0} where
  -- The copy of a sound tree is sound.
  pub sound_copied : (same : K × V → K × V → Type 0) (n m : Node K V Z) → IsCopy same n m → IsSoundMap (Some n) → IsSoundMap (Some m)
  sound_copied same n m copy sound =
      let many = length_all_zip same (own_pairs n) (own_pairs m) copy.own in
      let one = sound.2.0 in
      (sound.0, sound.1, (omega (arith, many, one), copy.levels sound.0 sound.2.1))

  -- A tree has a pair.
  pub has_pair : (n : Node K V Z) → IsSoundMap (Some n) → 0 < length (pairs_of n)
  has_pair n sound =
      let deep = deep_root sound.0 n sound.2 in
      let low : 0 ≤ sound.0 = omega arith in
      let one : least_children ^ 0 ≤ least_children ^ sound.0 = pow-le-pow_right (lit< tt) low in
      omega (arith, deep, one)
