-- The tree in which a value is written at a place: it stays but for its values, and its pairs.
use Rattle.std.proofs.Common.{◌≡◌, ℕ, zero, suc, ◌<◌, List, [], ◌∷◌, ◌++◌, length, map, take, drop, get_or, slice_get, slice_set, Option, Some, None}
use Rattle.std.proofs.Common.{refl, sym, ap, subst, ◌∙◌, arith}
use Rattle.std.specs.Prelude.{unwrap_or}
use Rattle.std.specs.Option.{option_map}
use Rattle.std.specs.declared.cmp.Ordering.{Ordering}
use Rattle.fc_base.specs.Parts.{below, at}
use Rattle.fc_base.specs.OneKey.{put_by}
use Rattle.fc_tree_node.specs.Weave.{weave}
use Rattle.fc_tree_node.specs.declared.node.Node.{Node, out-Node}
use Rattle.fc_tree_node.specs.Bare.{key_alone, bare}
use Rattle.fc_tree_node.specs.Node.{items_or_none, own_pairs, children_of, child_at, pairs_of, IsLevelled}
use Rattle.fc_tree_node.specs.Place.{before_child, after_child, IsPlace, place_pair, before_pair, after_pair}
use Rattle.fc_tree_search.specs.Found.{IsFound}
use Rattle.fc_tree_search.specs.Written.{set_value, with_value, with_child, written}
use Rattle.fc_tree_node.proofs.Made.{own_made, children_made}
use Rattle.fc_tree_node.proofs.Lent.{replaced}
use Rattle.fc_tree_node.proofs.Bare.{bare_made, same_size, same_levels}
use Rattle.fc_tree_node.proofs.Gaps.{item_there, place_pairs}
use Rattle.fc_tree_search.proofs.SearchFacts.{found_at}

-- a list of pairs with another value at a place
module _ {K V : Type 0} where
  pub take_value : (s : List (K × V)) (i : ℕ) (w : V) → take i (set_value s i w) ≡ take i s
  take_value [] i w = refl
  take_value (e ∷ s) zero w = refl
  take_value (e ∷ s) (suc i) w = ap (λ zs. e ∷ zs) (take_value s i w)

  pub drop_value : (s : List (K × V)) (i : ℕ) (w : V) → drop (suc i) (set_value s i w) ≡ drop (suc i) s
  drop_value [] i w = refl
  drop_value (e ∷ s) zero w = refl
  drop_value (e ∷ s) (suc i) w = drop_value s i w

  get_value : (s : List (K × V)) (i : ℕ) (w : V) (p : K × V) → slice_get s i ≡ Some p → slice_get (set_value s i w) i ≡ Some (p.0, w)
  get_value [] i w p h = absurd cc
  get_value (e ∷ s) zero w p h = let q : e ≡ p = cc in ap (λ x. Some (x.0, w)) q
  get_value (e ∷ s) (suc i) w p h = get_value s i w p h

  pub value_at : (s : List (K × V)) (i : ℕ) (w : V) (e d : K × V) → i < length s → e ≡ get_or s i e → get_or (set_value s i w) i d ≡ (e.0, w)
  value_at [] i w e d h q = absurd (omega arith)
  value_at (x ∷ s) zero w e d h q = ap (λ y. (y.0, w)) (sym q)
  value_at (x ∷ s) (suc i) w e d h q = value_at s i w e d (omega arith) q

  key_value : (s : List (K × V)) (i : ℕ) (w : V) → map key_alone (set_value s i w) ≡ map key_alone s
  key_value [] i w = refl
  key_value (e ∷ s) zero w = refl
  key_value (e ∷ s) (suc i) w = ap (λ zs. key_alone e ∷ zs) (key_value s i w)

  module _ {Z : Type 0} where
    -- the parts of the changed nodes
    pub value_own : (n : Node K V Z) (i : ℕ) (w : V) → own_pairs (with_value n i w) ≡ set_value (own_pairs n) i w
    value_own n i w = own_made _

    pub value_children : (n : Node K V Z) (i : ℕ) (w : V) → children_of (with_value n i w) ≡ children_of n
    value_children n i w = children_made _

    -- the tree without its values stays
    pub bare_value : (n : Node K V Z) (i : ℕ) (w : V) → bare (with_value n i w) ≡ bare n
    bare_value n i w = bare_made n _ _ (key_value (own_pairs n) i w) refl

    same_set : (cs : List (Node K V Z)) (i : ℕ) (c d : Node K V Z) → bare c ≡ bare (get_or cs i d) → map bare (slice_set cs i c) ≡ map bare cs
    same_set [] i c d e = refl
    same_set (x ∷ cs) zero c d e = ap (λ b. b ∷ map bare cs) e
    same_set (x ∷ cs) (suc i) c d e = ap (λ bs. bare x ∷ bs) (same_set cs i c d e)

    same_in : (o : Option (List (Node K V Z))) (i : ℕ) (c d : Node K V Z) → bare c ≡ bare (get_or (items_or_none o) i d)
        → option_map (map bare) (option_map (λ cs. slice_set cs i c) o) ≡ option_map (map bare) o
    same_in None i c d e = refl
    same_in (Some cs) i c d e = ap Some (same_set cs i c d e)

    pub bare_set : (n : Node K V Z) (i : ℕ) (c : Node K V Z) → bare c ≡ bare (child_at n i) → bare (with_child n i c) ≡ bare n
    bare_set n i c e = bare_made n _ _ refl (same_in (out-Node K V Z n).children i c n e)

    pub bare_written : (path : List ℕ) (n : Node K V Z) (w : V) → bare (written n path w) ≡ bare n
    unfolding written
    bare_written [] n w = refl
    bare_written (i ∷ []) n w = bare_value n i w
    bare_written (i ∷ j ∷ path) n w = bare_set n i (written (child_at n i) (j ∷ path) w) (bare_written (j ∷ path) (child_at n i) w)

    pub value_size : (n : Node K V Z) (i : ℕ) (w : V) → length (own_pairs (with_value n i w)) ≡ length (own_pairs n)
    value_size n i w = same_size n (with_value n i w) (bare_value n i w)

    pub written_levels : (path : List ℕ) (h : ℕ) (n : Node K V Z) (w : V) → IsLevelled h n → IsLevelled h (written n path w)
    written_levels path h n w l = same_levels n (written n path w) (bare_written path n w) h l

    -- the place stays, with the value in its pair
    pub record IsWrittenAt (path : List ℕ) (n m : Node K V Z) (p : K × V) (w : V) : Type 0 where
      pub place : IsPlace path m
      pub pair : place_pair path m ≡ Some (p.0, w)
      pub before : before_pair path m ≡ before_pair path n
      pub after : after_pair path m ≡ after_pair path n

    own_at : (n : Node K V Z) (i : ℕ) (p : K × V) (w : V) → i < length (own_pairs n) → slice_get (own_pairs n) i ≡ Some p
        → IsWrittenAt (i ∷ []) n (with_value n i w) p w
    own_at n i p w lt e =
        let m = with_value n i w in
        let s = own_pairs n in
        let f = value_size n i w in
        let part : List (Node K V Z) → List (K × V) → List (K × V) = λ cs ps. weave (map pairs_of cs) ps in
        record {
          place = omega arith;
          pair = ap (λ ps. slice_get ps i) (value_own n i w) ∙ get_value s i w p e;
          before = ap (λ cs. part (take (suc i) cs) (take i (own_pairs m))) (value_children n i w)
              ∙ ap (part (take (suc i) (children_of n))) (ap (take i) (value_own n i w) ∙ take_value s i w);
          after = ap (λ cs. part (drop (suc i) cs) (drop (suc i) (own_pairs m))) (value_children n i w)
              ∙ ap (part (drop (suc i) (children_of n))) (ap (drop (suc i)) (value_own n i w) ∙ drop_value s i w);
        }

    pub written_at : (path : List ℕ) (n : Node K V Z) (p : K × V) (w : V) → IsPlace path n → place_pair path n ≡ Some p
        → IsWrittenAt path n (written n path w) p w
    unfolding written
    written_at [] n p w q e = absurd q
    written_at (i ∷ []) n p w q e = own_at n i p w q e
    written_at (i ∷ j ∷ path) n p w q e =
        let c = written (child_at n i) (j ∷ path) w in
        let m = with_child n i c in
        let r = written_at (j ∷ path) (child_at n i) p w q.1 e in
        let s = replaced n i c in
        let same = s.here q.0 in
        let lt : i < length (children_of m) = omega (arith, s.many, q.0) in
        record {
          place = (lt, subst (IsPlace (j ∷ path)) (sym same) r.place);
          pair = ap (place_pair (j ∷ path)) same ∙ r.pair;
          before = ap (λ d. before_child m i ++ before_pair (j ∷ path) d) same ∙ ap (λ zs. zs ++ before_pair (j ∷ path) c) s.before
              ∙ ap (λ zs. before_child n i ++ zs) r.before;
          after = ap (λ d. after_pair (j ∷ path) d ++ after_child m i) same ∙ ap (λ zs. after_pair (j ∷ path) c ++ zs) s.after
              ∙ ap (λ zs. zs ++ after_child n i) r.after;
        }

    pair_there : (path : List ℕ) (n : Node K V Z) → IsPlace path n → (p : K × V) × (place_pair path n ≡ Some p)
    pair_there [] n q = absurd q
    pair_there (i ∷ []) n q = let x = item_there (own_pairs n) i q in (x.0, x.2)
    pair_there (i ∷ j ∷ path) n q = pair_there (j ∷ path) (child_at n i) q.1

    pub written_place : (path : List ℕ) (n : Node K V Z) (w : V) → IsPlace path n → IsPlace path (written n path w)
    written_place path n w q = let x = pair_there path n q in (written_at path n x.0 w q x.1).place

    -- the pairs are the same but for the value
    pub written_pairs : (path : List ℕ) (h : ℕ) (n : Node K V Z) (p : K × V) (w : V) → IsLevelled h n → IsPlace path n → place_pair path n ≡ Some p
        → pairs_of (written n path w) ≡ before_pair path n ++ (p.0, w) ∷ after_pair path n
    written_pairs path h n p w l q e =
        let m = written n path w in
        let r = written_at path n p w q e in
        let c = place_pairs path h m (written_levels path h n w l) r.place in
        let both : Some c.pair ≡ Some (p.0, w) = sym c.is ∙ r.pair in
        let x : c.pair ≡ (p.0, w) = cc in
        c.parts ∙ ap (λ zs. zs ++ c.pair ∷ after_pair path m) r.before ∙ ap (λ y. before_pair path n ++ y ∷ after_pair path m) x
        ∙ ap (λ zs. before_pair path n ++ (p.0, w) ∷ zs) r.after

module _ {K Q V : Type 0} (cmp : K → Q → Ordering) (k : Q) where
  module _ {Z : Type 0} where
    -- a value written at the place of a key's pair is the value put at the key
    pub written_put : (path : List ℕ) (h : ℕ) (n : Node K V Z) (j : K) (w : V) → IsLevelled h n → IsFound cmp k n path
        → pairs_of (written n path w) ≡ put_by cmp (pairs_of n) k j w
    written_put path h n j w l f =
        let c = place_pairs path h n l f.place in
        let a = found_at cmp k path h n l f in
        written_pairs path h n c.pair w l f.place c.is
        ∙ ap (λ zs. zs ++ (c.pair.0, w) ∷ after_pair path n) (sym a.lower)
        ∙ ap (λ o. below cmp (pairs_of n) k ++ (unwrap_or (option_map (λ e. e.0) o) j, w) ∷ after_pair path n) (sym (a.here ∙ c.is))
        ∙ ap (λ zs. below cmp (pairs_of n) k ++ (unwrap_or (option_map (λ e. e.0) (at cmp (pairs_of n) k)) j, w) ∷ zs) (sym a.upper)
