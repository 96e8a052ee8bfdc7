-- The ends of writing walks.
use Rattle.std.proofs.Common.{◌≡◌, ℕ, zero, suc, ◌+◌, ◌-◌, ◌<◌, ◌≤◌, List, [], ◌∷◌, ◌++◌, length, take, get_or, slice_get, length-append, Some, None, refl, sym}
use Rattle.std.proofs.Common.{ap, Bool, true, false, nat_eq, subst, ◌∙◌, arith}
use Rattle.std.specs.List.{AllByRecursion}
use Rattle.std.specs.Option.{option_map}
use Rattle.std.specs.declared.cmp.Ordering.{Ordering}
use Rattle.std.specs.declared.cmp.Ordering.TheVariants.{Less, Greater}
use Rattle.std.proofs.lemmas.List.{nil_from_length, length-drop}
use Rattle.std.specs.Prelude.{slice_index, drop}
use Rattle.std.specs.Cmp.Lexicographic.{pointwise, other_text}
use Rattle.fc_base.specs.Sizes.{capacity}
use Rattle.fc_tree_node.specs.declared.node.Node.{Node}
use Rattle.fc_tree_node.specs.Leaf.{leaf_at}
use Rattle.fc_tree_node.specs.Node.{own_pairs, child_at, pairs_of, IsTree}
use Rattle.fc_tree_node.specs.Weave.{after_list}
use Rattle.fc_tree_node.specs.LeafGap.{IsLeafGap}
use Rattle.fc_tree_node.specs.Path.{IsPath, before_gap, after_gap}
use Rattle.fc_tree_node.specs.Place.{IsPlace, before_pair, after_pair}
use Rattle.fc_tree_node.proofs.Gaps.{gap_pairs, place_pairs, take_item}
use Rattle.fc_tree_node.proofs.Lists.{all_front, length_take}
use Rattle.fc_map.specs.Entries.{Map, entries, IsSoundMap}
use Rattle.fc_map.specs.Place.{IsOpenAt, TellsRoom}
use Rattle.fc_tree_cursor.specs.Gap.{IsGapIn, AreEndsIn, zeros}
use Rattle.fc_tree_search.specs.Written.{set_value}
use Rattle.fc_map.specs.Writing.{Stretch, wrote_first, wrote_last}
use Rattle.fc_map.proofs.WrittenFacts.{gap_stays, entries_written}
use Rattle.fc_tree_node.specs.TreePlace.{IsPlaceIn, pair_in, before_gap_in, before_pair_in}
use Rattle.fc_map.specs.Lends.{branch, written_in}
use Rattle.fc_tree_cursor.specs.Leaf.{advanced}
use Rattle.fc_tree_cursor.proofs.LeafFacts.{on_length, on_none, on_again, on_last, on_parts, gap_near}
use Rattle.fc_tree_cursor.proofs.Meetings.{same_path}
use Rattle.fc_tree_cursor.proofs.GapFacts.{IsNext, gap_small, stepped_after}

take_lead : (p ys : List ℕ) (k : ℕ) → k ≤ length p → take k (take k p ++ ys) ≡ take k p
take_lead p ys zero h = refl
take_lead [] ys (suc k) h = absurd (omega arith)
take_lead (x ∷ p) ys (suc k) h = ap (λ q. x ∷ q) (take_lead p ys k (omega arith))

-- the steps of a path to a pair, by the gap after the pair
branch_after : (p next rest : List ℕ) (last place : ℕ) → last < length p → next ≡ take last p ++ rest → branch next last place ≡ take last p ++ place ∷ []
branch_after p next rest last place h is = ap (λ q. take last q ++ place ∷ []) is ∙ ap (λ q. q ++ place ∷ []) (take_lead p rest last (omega arith))

-- what stands after no pair is nothing
none_after : {X : Type 0} (ps : List X) (cs : List (List X)) → after_list ps cs ≡ [] → ps ≡ []
none_after [] cs e = refl
none_after (p ∷ ps) [] e = absurd cc
none_after (p ∷ ps) (c ∷ cs) e = absurd cc

both_none : {X : Type 0} (a b : List X) → a ++ b ≡ [] → (a ≡ []) × (b ≡ [])
both_none [] b e = (refl, e)
both_none (x ∷ a) b e = absurd cc

-- a pair of its leaf lies after a gap
pub record IsInLeaf (path : List ℕ) (gone : ℕ) : Type 0 where
  pub some : 0 < length path
  pub fits : (last : ℕ) → last + 1 ≡ length path → get_or path last 0 + gone < capacity

module _ {K V : Type 0} where
  module _ {Z : Type 0} where
    -- gaps with as many pairs before them are the same
    pub same_gap : (m : Map K V Z) (a b : List ℕ) → IsSoundMap m → IsGapIn m a → IsGapIn m b → length (before_gap_in m a) ≡ length (before_gap_in m b) → a ≡ b
    same_gap None a b sound s t e = s ∙ sym t
    same_gap (Some root) a b sound s t e = let h = sound.0 in let l = sound.2.1 in same_path h root a b l s.0 t.0 (s.1 h l) (t.1 h l) e

    -- a gap has at most all pairs before it
    pub gap_within : (m : Map K V Z) (a : List ℕ) → IsSoundMap m → IsGapIn m a → length (before_gap_in m a) ≤ length (entries m)
    gap_within None a sound s = omega arith
    gap_within (Some root) a sound s =
        let h = sound.0 in
        let l = sound.2.1 in
        let e = ap length (gap_pairs a h root l (s.1 h l) s.0) ∙ length-append (before_gap a root) (after_gap a root) in
        omega (arith, e)

    -- a key that lies after all others goes into the gap after all pairs
    pub last_open : {Q : Type 0} (cmp : K → Q → Ordering) (k : Q) (m : Map K V Z) (gap : List ℕ) → IsSoundMap m → IsGapIn m gap
        → length (before_gap_in m gap) ≡ length (entries m) → AllByRecursion (λ e. cmp e.0 k ≡ Less) (entries m) → IsOpenAt cmp k m gap
    last_open cmp k None gap sound s all below = s
    last_open cmp k (Some root) gap sound s all below =
        let h = sound.0 in
        let l = sound.2.1 in
        let parts = gap_pairs gap h root l (s.1 h l) s.0 in
        let e = ap length parts ∙ length-append (before_gap gap root) (after_gap gap root) in
        let none : after_gap gap root ≡ [] = nil_from_length (after_gap gap root) (omega (arith, e, all)) in
        record {
          way = s.0;
          levels = s.1;
          front = all_front (λ e. cmp e.0 k ≡ Less) (before_gap gap root) (after_gap gap root) (subst (AllByRecursion (λ e. cmp e.0 k ≡ Less)) parts below);
          back = subst (AllByRecursion (λ e. cmp e.0 k ≡ Greater)) (sym none) tt;
        }

    -- a path that leads after all pairs ends after those of its leaf
    last_step : (k i : ℕ) (path : List ℕ) (n : Node K V Z) → k ≡ length path → IsPath (i ∷ path) n → after_gap (i ∷ path) n ≡ []
        → slice_index (i ∷ path) k ≡ length (own_pairs (leaf_at (i ∷ path) n))
    last_step zero i [] n e p none =
        let rest = ap length (none_after (drop i (own_pairs n)) _ none) in
        let long = length-drop i (own_pairs n) in
        omega (arith, rest, long, p.0)
    last_step zero i (j ∷ path) n e p none = absurd (omega arith)
    last_step (suc k) i [] n e p none = absurd (omega arith)
    last_step (suc k) i (j ∷ path) n e p none = last_step k j path (child_at n i) (omega arith) p.1 (both_none _ _ none).0

    -- so its last step tells whether that has room
    pub room_at_end : (m : Map K V Z) (gap : List ℕ) (last : ℕ) → IsSoundMap m → IsGapIn m gap → length (before_gap_in m gap) ≡ length (entries m)
        → last + 1 ≡ length gap → slice_index gap last < capacity → TellsRoom true gap m
    room_at_end None gap last sound s all e room = absurd (let z = ap length s in omega arith)
    room_at_end (Some root) [] last sound s all e room = absurd (omega arith)
    room_at_end (Some root) (i ∷ path) last sound s all e room =
        let h = sound.0 in
        let l = sound.2.1 in
        let parts = ap length (gap_pairs (i ∷ path) h root l (s.1 h l) s.0) ∙ length-append (before_gap (i ∷ path) root) (after_gap (i ∷ path) root) in
        let none : after_gap (i ∷ path) root ≡ [] = nil_from_length (after_gap (i ∷ path) root) (omega (arith, parts, all)) in
        let is = last_step last i path root (omega arith) s.0 none in
        (λ _. subst (λ k. k < capacity) is room, λ _. refl)

    -- where a pair lies before a gap, all gaps are gaps of leaves
    pub gap_some : (m : Map K V Z) (gap other : List ℕ) → IsSoundMap m → IsGapIn m gap → 0 < length (before_gap_in m other) → 0 < length gap
    gap_some None gap other sound g k = absurd (omega arith)
    gap_some (Some root) gap other sound g k = let e = g.1 sound.0 sound.2.1 in omega arith

  -- the pair at a place
  pair_at : (front back : List (K × V)) (p : K × V) → slice_get (front ++ p ∷ back) (length front) ≡ Some p
  pair_at [] back p = refl
  pair_at (x ∷ front) back p = pair_at front back p

  module _ {Z : Type 0} where
    pub pair_there : (m : Map K V Z) (path : List ℕ) → IsSoundMap m → IsPlaceIn m path → slice_get (entries m) (length (before_pair_in m path)) ≡ pair_in m path
    pair_there None path sound place = absurd place
    pair_there (Some root) path sound place =
        let c = place_pairs path sound.0 root sound.2.1 place in
        ap (λ s. slice_get s (length (before_pair path root))) c.parts ∙ pair_at (before_pair path root) (after_pair path root) c.pair ∙ sym c.is

    pub steps_fit : (m : Map K V Z) (path : List ℕ) (gone last : ℕ) → IsSoundMap m → IsGapIn m (advanced path gone) → last + 1 ≡ length path
        → get_or path last 0 + gone ≤ capacity
    steps_fit m path gone last sound gap e = let l = on_length path gone in
        subst (λ k. k ≤ capacity) (on_last path last gone e) (gap_small m (advanced path gone) last sound gap (omega arith))

    -- a gap of a leaf, and one before it
    path_less : (gap : List ℕ) (n : Node K V Z) (k j : ℕ) → IsPath (advanced gap k) n → j ≤ k → IsPath (advanced gap j) n
    path_less [] n k j p le = p
    path_less (i ∷ []) n k j p le = (let f = p.0 in omega (arith, f, le), tt)
    path_less (i ∷ l ∷ gap) n k j p le = (p.0, path_less (l ∷ gap) (child_at n i) k j p.1 le)

    pub gap_less : (m : Map K V Z) (gap : List ℕ) (k j : ℕ) → IsGapIn m (advanced gap k) → j ≤ k → IsGapIn m (advanced gap j)
    gap_less None [] k j g le = refl
    gap_less None (i ∷ gap) k j g le = absurd (let e = ap length g in let l = on_length (i ∷ gap) k in omega arith)
    gap_less (Some root) gap k j g le = (path_less gap root k j g.0 le, λ h l. on_length gap j ∙ sym (on_length gap k) ∙ g.1 h l)

    -- what a step to the next pair comes to
    pub record IsStepOn (m : Map K V Z) (old path : List ℕ) (gone way place : ℕ) : Type 0 where
      pub way_is : way < length path
      pub small : place < 256
      pub place_is : IsPlaceIn m (branch path way place)
      pub before : length (before_pair_in m (branch path way place)) ≡ length (before_gap_in m old)
      pub gap : IsGapIn m (advanced path gone)
      pub count : length (before_gap_in m (advanced path gone)) ≡ length (before_gap_in m old) + 1

    -- within a leaf
    pub in_leaf : (m : Map K V Z) (path : List ℕ) (gone : ℕ) (other : List ℕ) → IsSoundMap m → IsGapIn m (advanced path (gone + 1))
        → length (before_gap_in m (advanced path gone)) < length (before_gap_in m other) → IsInLeaf path gone
    in_leaf m path gone other sound g k =
        let s = gap_some m (advanced path (gone + 1)) other sound g (omega (arith, k)) in
        let l = on_length path (gone + 1) in
        record { some = omega arith; fits = λ last e. (let f = steps_fit m path (gone + 1) last sound g e in omega (arith, f)) }

    pub step_within : (m : Map K V Z) (path : List ℕ) (gone last place : ℕ) → IsSoundMap m → IsInLeaf path gone → last + 1 ≡ length path
        → place ≡ get_or path last 0 + gone → IsGapIn m (advanced path (gone + 1)) → IsStepOn m (advanced path gone) path (gone + 1) last place
    step_within m path gone last place sound inside e here r =
        let gap = advanced path gone in
        let is : gap ≡ branch path last place = on_parts path last gone e ∙ ap (λ i. take last path ++ i ∷ []) (sym here) in
        let l = on_length path gone in
        let fits = inside.fits last e in
        let x = gap_near m gap 0 sound (omega arith) (subst (IsGapIn m) (sym (on_again path gone 1)) r) in
        let one : advanced gap 1 ≡ advanced path (gone + 1) = on_again path gone 1 in
        record {
          way_is = omega arith;
          small = omega (arith, fits, here);
          place_is = subst (IsPlaceIn m) is x.place;
          before = ap (λ p. length (before_pair_in m p)) (sym is) ∙ x.before;
          gap = r;
          count = ap (λ p. length (before_gap_in m p)) (sym one) ∙ x.count;
        }

    -- a gap in the tree at the root, with a pair after it
    pub record IsOnTree (gap : List ℕ) (n : Node K V Z) : Type 0 where
      pub levels : IsTree n
      pub slot : IsLeafGap gap n
      pub later : length (before_gap gap n) < length (pairs_of n)

    pub on_tree : (m : Map K V Z) (n : Node K V Z) (gap other : List ℕ) → m ≡ Some n → IsSoundMap m → IsGapIn m gap → IsGapIn m other
        → length (before_gap_in m gap) < length (before_gap_in m other) → IsOnTree gap n
    on_tree m n gap other is sound g o k =
        let w = gap_within m other sound o in
        let later : length (before_gap_in m gap) < length (entries m) = omega (arith, w, k) in
        let s = subst IsSoundMap is sound in
        record {
          levels = (s.0, s.1, s.2.1);
          slot = subst (λ o. IsGapIn o gap) is g;
          later = subst (λ o. length (before_gap_in o gap) < length (entries o)) is later;
        }

    -- over a pair at the root of the tree
    pub record IsPassed (gap next : List ℕ) (n : Node K V Z) (last place run : ℕ) : Type 0 where
      pub way_is : last < length gap
      pub own : place ≡ get_or gap last 0
      pub place_is : IsPlace (take last gap ++ place ∷ []) n
      pub before : length (before_pair (take last gap ++ place ∷ []) n) ≡ length (before_gap gap n)
      pub next_is : next ≡ take last gap ++ (place + 1) ∷ zeros (length gap - suc last)
      pub run_is : IsPath (advanced next run) n

    step_out_root : (n : Node K V Z) (gap next : List ℕ) (last place run : ℕ) → IsSoundMap (Some n) → IsGapIn (Some n) gap → IsPassed gap next n last place run
        → IsStepOn (Some n) gap next 0 last place × IsGapIn (Some n) (advanced next run)
    step_out_root n gap next last place run sound g x =
        let h = sound.0 in
        let w = x.way_is in
        let own = x.own in
        let here : take last gap ++ place ∷ [] ≡ take (suc last) gap = ap (λ i. take last gap ++ i ∷ []) own ∙ sym (take_item gap last 0 w) in
        let y : IsNext gap n (suc last) = record {
          within = omega (arith, w);
          none = λ e. absurd (omega arith);
          place =
              λ _. subst (λ p. IsPlace p n) here x.place_is;
          before = λ _. subst (λ p. length (before_pair p n) ≡ length (before_gap gap n)) here x.before;
        } in
        let t = length_take last gap (omega (arith, w)) in
        let f = x.next_is ∙ ap (λ i. take last gap ++ (i + 1) ∷ zeros (length gap - suc last)) own
        ∙ ap (λ k. take last gap ++ (get_or gap last 0 + 1) ∷ zeros k) (omega (arith, t, w)) in
        let z = stepped_after (Some n) n gap next last (suc last) refl sound g y (omega arith) f in
        let b = branch_after gap next _ last place w x.next_is in
        let slot = z.slot in
        let long = slot.1 h sound.2.1 in
        let deep = g.1 h sound.2.1 in
        let small = gap_small (Some n) gap last sound g w in (
          record {
            way_is = omega arith;
            small = omega (arith, small, own);
            place_is = subst (λ p. IsPlace p n) (sym b) x.place_is;
            before = ap (λ p. length (before_pair p n)) b ∙ x.before;
            gap = subst (IsGapIn (Some n)) (sym (on_none next)) slot;
            count = ap (λ p. length (before_gap p n)) (on_none next) ∙ z.count;
          },
          (x.run_is, λ k l. on_length next run ∙ slot.1 k l),
        )

    pub step_out : (m : Map K V Z) (n : Node K V Z) (gap next : List ℕ) (last place run : ℕ) → m ≡ Some n → IsSoundMap m → IsGapIn m gap
        → IsPassed gap next n last place run → IsStepOn m gap next 0 last place × IsGapIn m (advanced next run)
    step_out m n gap next last place run is sound g x =
        subst (λ o. IsStepOn o gap next 0 last place × IsGapIn o (advanced next run)) (sym is)
        (step_out_root n gap next last place run (subst IsSoundMap is sound) (subst (λ o. IsGapIn o gap) is g) x)

pub text_same : (xs ys : List ℕ) (r : Bool) → r ≡ pointwise nat_eq xs ys → xs ≡ ys → r ≡ true
text_same xs ys true e s = refl
text_same xs ys false e s = absurd (other_text xs ys e s)

module _ {K V : Type 0} where
  abbrev state : List (K × V) → ℕ → ℕ → Stretch K V
  state s f b = record { list = s; front = f; back = b }

  pub state_is : (s t : List (K × V)) (f f' b b' : ℕ) → s ≡ t → f ≡ f' → b ≡ b' → state s f b ≡ state t f' b'
  state_is s t f f' b b' p q r = ap (λ s. state s f b) p ∙ ap (λ f. state t f b) q ∙ ap (λ b. state t f' b) r

  module _ {Z : Type 0} where
    -- the ends of a walk stay where a value is written
    pub ends_stay : (m : Map K V Z) (path front back : List ℕ) (w : V) → AreEndsIn m front back → AreEndsIn (written_in m path w) front back
    ends_stay m path front back w ends =
        let f = gap_stays m path front w ends.0 in
        let b = gap_stays m path back w ends.1 in
        (f.0, b.0, omega (arith, ends.2))

    pub counted_stays : (m : Map K V Z) (path gap : List ℕ) (count : ℕ) (w : V) → IsGapIn m gap → count ≡ length (before_gap_in m gap)
        → count ≡ length (before_gap_in (written_in m path w) gap)
    counted_stays m path gap count w g e = e ∙ sym (gap_stays m path gap w g).1

    -- a walk once a value is written
    abbrev once : Map K V Z → List ℕ → List ℕ → List ℕ → V → Stretch K V
    once m path front back w = let o = written_in m path w in state (entries o) (length (before_gap_in o front)) (length (before_gap_in o back))

    stretch_written : (m : Map K V Z) (path front back : List ℕ) (w : V) (s : List (K × V)) (at from to : ℕ) → IsSoundMap m → IsPlaceIn m path
        → AreEndsIn m front back
        → entries m ≡ s → length (before_pair_in m path) ≡ at → length (before_gap_in m front) ≡ from → length (before_gap_in m back) ≡ to
        → once m path front back w ≡ state (set_value s at w) from to
    stretch_written m path front back w s at from to sound place ends list a f b =
        state_is _ _ _ _ _ _
        (entries_written m path w sound place ∙ ap (λ z. set_value z (length (before_pair_in m path)) w) list ∙ ap (λ i. set_value s i w) a)
        ((gap_stays m path front w ends.0).1 ∙ f)
        ((gap_stays m path back w ends.1).1 ∙ b)

    -- the pair that a place has in a list
    pub place_item : (m : Map K V Z) (path : List ℕ) (s : List (K × V)) (i : ℕ) → IsSoundMap m → IsPlaceIn m path → entries m ≡ s
        → length (before_pair_in m path) ≡ i → slice_get s i ≡ pair_in m path
    place_item m path s i sound place list a = ap (λ z. slice_get z i) (sym list) ∙ ap (λ j. slice_get (entries m) j) (sym a) ∙ pair_there m path sound place

    place_value : (m : Map K V Z) (path : List ℕ) (s : List (K × V)) (i : ℕ) (v : V) → IsSoundMap m → IsPlaceIn m path → entries m ≡ s
        → length (before_pair_in m path) ≡ i → option_map (λ p. p.1) (pair_in m path) ≡ Some v → option_map (λ p. p.1) (slice_get s i) ≡ Some v
    place_value m path s i v sound place list a e = ap (option_map (λ p. p.1)) (place_item m path s i sound place list a) ∙ e

    -- a place on a path, and on what is the same path
    pub place_on : (m : Map K V Z) (path same : List ℕ) (way place i : ℕ) → same ≡ path → IsPlaceIn m (branch path way place)
        → length (before_pair_in m (branch path way place)) ≡ i
        → IsPlaceIn m (branch same way place) × (length (before_pair_in m (branch same way place)) ≡ i)
    place_on m path same way place i is there before =
        (subst (λ p. IsPlaceIn m (branch p way place)) (sym is) there, ap (λ p. length (before_pair_in m (branch p way place))) is ∙ before)

    -- What is written to the first value of a walk, over which its front has gone, and which value it is.
    pub lent_first : (m : Map K V Z) (path front back : List ℕ) (v : V) (t : Stretch K V) → IsSoundMap m → AreEndsIn m front back → entries m ≡ t.list
        → IsPlaceIn m path × (length (before_pair_in m path) ≡ t.front) → length (before_gap_in m front) ≡ t.front + 1
        → length (before_gap_in m back) ≡ t.back
        → option_map (λ p. p.1) (pair_in m path) ≡ Some v
        → ((w : V) → once m path front back w ≡ wrote_first t w) × (option_map (λ p. p.1) (slice_get t.list t.front) ≡ Some v)
    lent_first m path front back v t sound ends list place f b value = (
      λ w. stretch_written m path front back w t.list t.front (t.front + 1) t.back sound place.0 ends list place.1 f b,
      place_value m path t.list t.front v sound place.0 list place.1 value,
    )

    -- The same of the last value, before which its back has gone.
    pub lent_last : (m : Map K V Z) (path front back : List ℕ) (v : V) (t : Stretch K V) → IsSoundMap m → AreEndsIn m front back → entries m ≡ t.list
        → IsPlaceIn m path → length (before_pair_in m path) + 1 ≡ t.back → length (before_gap_in m front) ≡ t.front
        → length (before_gap_in m back) + 1 ≡ t.back
        → option_map (λ p. p.1) (pair_in m path) ≡ Some v
        → ((w : V) → once m path front back w ≡ wrote_last t w) × (option_map (λ p. p.1) (slice_get t.list (t.back - 1)) ≡ Some v)
    lent_last m path front back v t sound ends list place at f b value = (
      λ w. stretch_written m path front back w t.list (t.back - 1) t.front (t.back - 1) sound place ends list (omega arith) f (omega arith),
      place_value m path t.list (t.back - 1) v sound place list (omega arith) value,
    )
