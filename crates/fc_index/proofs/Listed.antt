-- An index lists the rows by their keys still, once a row was put or cut.
use Rattle.std.proofs.Common.{◌≡◌, Bool, true, false, cond, List, [], ◌∷◌, ◌++◌, ℕ, ◌⊎◌, inl, inr, Option, Some, None, map}
use Rattle.std.proofs.Common.{refl, sym, ap, ◌∙◌, subst, length, arith}
use Rattle.std.specs.Prelude.{not, ◌&&◌, ◌||◌, ◌↔◌, is_some, unwrap_or, option_to_list, IsSome, IsTrue, ⊤, ◌+◌}
use Rattle.std.specs.List.{AllByRecursion}
use Rattle.std.specs.Option.{option_map}
use Rattle.std.specs.Cmp.{IsTotalOrder}
use Rattle.std.specs.Ordering.{is_eq, ordering_then, ordering_reverse}
use Rattle.std.specs.declared.cmp.Ordering.{Ordering}
use Rattle.std.specs.declared.cmp.Ordering.TheVariants.{Less, Equal, Greater}
use Rattle.std.proofs.lemmas.Cmp.{on_total, then_total, tied_itself, alike_right}
use Rattle.std.proofs.lemmas.List.{length-map}
use Rattle.fc_base.specs.declared.try_reserve_error.TryReserveError.{TryReserveError}
use Rattle.fc_base.specs.Ascending.{IsAscending}
use Rattle.fc_base.specs.Growth.{MayGrowRefuse}
use Rattle.fc_base.specs.OneKey.{put, cut}
use Rattle.fc_base.specs.Parts.{at, below, above, value_at}
use Rattle.fc_base.proofs.AscendingFacts.{is_equal}
use Rattle.fc_base.proofs.Laws.{value_at_equal, value_at_put_equal, value_at_put_other, at_cut, value_at_cut_other, cut_put_new, parts_joined}
use Rattle.fc_base.proofs.Laws.{length_cut_there, length_put_there, length_put_new}
use Rattle.fc_set.specs.Items.{item_at, without, with_item, AreAscending}
use Rattle.fc_set.proofs.ItemFacts.{keys, keys_length, item_at_keys, with_item_keys, without_keys, none_keys, some_keys}
use Rattle.fc_index.specs.Rows.{key_then_id, has_key, has_both, Lists, without_old, IsNewKey, IsValueSet}
use Rattle.fc_index.specs.declared.keyed.Keyed.{Keyed}

is_new : {X : Type 0} (o : Option X) → is_some o ≡ false → o ≡ None
is_new None e = refl
is_new (Some x) e = absurd cc

-- two answers are equal together where both are
pub both_equal : (o p : Ordering) → is_eq (ordering_then o p) ≡ (is_eq o && is_eq p)
both_equal Less p = refl
both_equal Equal p = refl
both_equal Greater p = refl

and_false : (b : Bool) → (b && false) ≡ false
and_false true = refl
and_false false = refl

or_true : (b : Bool) → (b || true) ≡ true
or_true true = refl
or_true false = refl

-- What stands at a key once a pair is put or cut.
module _ {K V : Type 0} (cmp : K → K → Ordering) (total : IsTotalOrder cmp) (s : List (K × V)) (k j : K) where
  away : is_eq (cmp j k) ≡ false → ¬ (cmp j k ≡ Equal)
  away n e = absurd (let no : false ≡ true = sym n ∙ ap is_eq e in cc)

  value_put : (v : V) → value_at cmp (put cmp s k v) j ≡ cond (is_eq (cmp j k)) (Some v) (value_at cmp s j)
  value_put v = go (is_eq (cmp j k)) refl
    where
      go : (b : Bool) → is_eq (cmp j k) ≡ b → value_at cmp (put cmp s k v) j ≡ cond b (Some v) (value_at cmp s j)
      go true e = value_at_put_equal cmp s k v j total (is_equal (cmp j k) e)
      go false e = value_at_put_other cmp s k v j total (away e)

  value_cut : value_at cmp (cut cmp s k) j ≡ cond (is_eq (cmp j k)) None (value_at cmp s j)
  value_cut = go (is_eq (cmp j k)) refl
    where
      go : (b : Bool) → is_eq (cmp j k) ≡ b → value_at cmp (cut cmp s k) j ≡ cond b None (value_at cmp s j)
      go true e = value_at_equal cmp (cut cmp s k) k j total (is_equal (cmp j k) e) ∙ ap (option_map (λ x. x.1)) (at_cut cmp s k)
      go false e = value_at_cut_other cmp s k j total (away e)

-- whether a pair is there, by its value
module _ {K V : Type 0} (cmp : K → K → Ordering) (s : List (K × V)) (k : K) where
  at_none : value_at cmp s k ≡ None → at cmp s k ≡ None
  at_none e = elim (at cmp s k) as (λ o. option_map (λ x. x.1) o ≡ None → o ≡ None) [ None ↦ λ n. refl | Some x ↦ λ n. absurd cc ] e

  at_some : (v : V) → value_at cmp s k ≡ Some v → IsSome (at cmp s k)
  at_some v e = elim (at cmp s k) as (λ o. option_map (λ x. x.1) o ≡ Some v → IsSome o) [ None ↦ λ n. absurd cc | Some x ↦ λ n. refl ] e

-- A set is a map of its items with nothing at them.
module _ {T : Type 0} (cmp : T → T → Ordering) (total : IsTotalOrder cmp) where
  abbrev pairs : List T → List (T × ⊤)
  pairs l = map (λ z. (z, tt)) l

  pairs_keys : (l : List T) → keys (pairs l) ≡ l
  pairs_keys [] = refl
  pairs_keys (z ∷ l) = ap (λ m. z ∷ m) (pairs_keys l)

  all_pairs : (P : T → Type 0) (l : List T) → AllByRecursion P l → AllByRecursion (λ (e : T × ⊤). P e.0) (pairs l)
  all_pairs P [] a = tt
  all_pairs P (z ∷ l) a = (a.0, all_pairs P l a.1)

  ascending_pairs : (l : List T) → AreAscending cmp l → IsAscending cmp (pairs l)
  ascending_pairs [] a = tt
  ascending_pairs (z ∷ l) a = (all_pairs (λ y. cmp z y ≡ Less) l a.0, ascending_pairs l a.1)

  module _ (s : List T) (x : T) where
    put_pairs : with_item cmp s x ≡ keys (put cmp (pairs s) x tt)
    put_pairs = ap (λ l. with_item cmp l x) (sym (pairs_keys s)) ∙ with_item_keys cmp (pairs s) x tt

    cut_pairs : without cmp s x ≡ keys (cut cmp (pairs s) x)
    cut_pairs = ap (λ l. without cmp l x) (sym (pairs_keys s)) ∙ without_keys cmp (pairs s) x

    none_in_pairs : item_at cmp s x ≡ None → at cmp (pairs s) x ≡ None
    none_in_pairs e = none_keys cmp (pairs s) x (ap (λ l. item_at cmp l x) (pairs_keys s) ∙ e)

    some_in_pairs : is_some (item_at cmp s x) ≡ true → IsSome (at cmp (pairs s) x)
    some_in_pairs e = some_keys cmp (pairs s) x (ap (λ l. is_some (item_at cmp l x)) (pairs_keys s) ∙ e)

    -- An item that is there already is not put in.
    with_there : AreAscending cmp s → is_some (item_at cmp s x) ≡ true → with_item cmp s x ≡ s
    with_there a there = put_pairs ∙ ap keys (go (at cmp (pairs s) x) refl) ∙ pairs_keys s
      where
        earlier : List (T × ⊤)
        earlier = below cmp (pairs s) x

        later : List (T × ⊤)
        later = above cmp (pairs s) x

        go : (o : Option (T × ⊤)) → at cmp (pairs s) x ≡ o → put cmp (pairs s) x tt ≡ pairs s
        go None e = absurd (let no : true ≡ false = sym (some_in_pairs there) ∙ ap is_some e in cc)
        go (Some y) e = ap (λ o. earlier ++ (unwrap_or (option_map (λ z. z.0) o) x, tt) ∷ later) e
            ∙ sym (ap (λ o. earlier ++ (option_to_list o ++ later)) e) ∙ parts_joined cmp (pairs s) x total (ascending_pairs s a)

    -- An item that is put in, and taken out again if it was new, leaves the list as it was.
    pub taken_back : (new : Bool) (more rest : List T) → AreAscending cmp s → IsTrue new ↔ (item_at cmp s x ≡ None) → more ≡ with_item cmp s x
        → rest ≡ cond new (without cmp more x) more → rest ≡ s
    taken_back true more rest a is put_in left =
        left ∙ ap (λ l. without cmp l x) (put_in ∙ put_pairs) ∙ without_keys cmp (put cmp (pairs s) x tt) x
        ∙ ap keys (cut_put_new cmp (pairs s) x tt total (ascending_pairs s a) (none_in_pairs (is.0 refl))) ∙ pairs_keys s
    taken_back false more rest a is put_in left = left ∙ put_in ∙ with_there a (go (item_at cmp s x) refl)
      where
        go : (o : Option T) → item_at cmp s x ≡ o → is_some (item_at cmp s x) ≡ true
        go None e = absurd (let no : false ≡ true = is.1 e in cc)
        go (Some y) e = ap is_some e

    length_with_new : AreAscending cmp s → is_some (item_at cmp s x) ≡ false → length (with_item cmp s x) ≡ length s + 1
    length_with_new a new =
        ap length put_pairs ∙ keys_length (put cmp (pairs s) x tt)
        ∙ length_put_new cmp (pairs s) x tt total (ascending_pairs s a) (none_in_pairs (is_new _ new)) ∙ ap (λ n. n + 1) (length-map s (λ z. (z, tt)))

    length_with_there : AreAscending cmp s → is_some (item_at cmp s x) ≡ true → length (with_item cmp s x) ≡ length s
    length_with_there a there =
        ap length put_pairs ∙ keys_length (put cmp (pairs s) x tt)
        ∙ length_put_there cmp (pairs s) x tt total (ascending_pairs s a) (some_in_pairs there) ∙ length-map s (λ z. (z, tt))

    length_without_there : AreAscending cmp s → is_some (item_at cmp s x) ≡ true → length (without cmp s x) + 1 ≡ length s
    length_without_there a there =
        ap (λ l. length l + 1) cut_pairs ∙ ap (λ n. n + 1) (keys_length (cut cmp (pairs s) x))
        ∙ length_cut_there cmp (pairs s) x total (ascending_pairs s a) (some_in_pairs there) ∙ length-map s (λ z. (z, tt))

    -- Whether an item is there once one is put in or taken out.
    module _ (y : T) where
      of_keys : (l : List (T × ⊤)) → is_some (item_at cmp (keys l) y) ≡ is_some (value_at cmp l y)
      of_keys l = ap is_some (item_at_keys cmp l y) ∙ elim (at cmp l y) as (λ o. is_some (option_map (λ e. e.0) o) ≡ is_some (option_map (λ e. e.1) o))
          [ None ↦ refl | Some e ↦ refl ]

      of_items : is_some (value_at cmp (pairs s) y) ≡ is_some (item_at cmp s y)
      of_items = sym (of_keys (pairs s)) ∙ ap (λ l. is_some (item_at cmp l y)) (pairs_keys s)

      there_with : is_some (item_at cmp (with_item cmp s x) y) ≡ (is_eq (cmp y x) || is_some (item_at cmp s y))
      there_with =
          ap (λ l. is_some (item_at cmp l y)) put_pairs ∙ of_keys (put cmp (pairs s) x tt) ∙ ap is_some (value_put cmp total (pairs s) x y tt)
          ∙ elim (is_eq (cmp y x)) as (λ b. is_some (cond b (Some tt) (value_at cmp (pairs s) y)) ≡ (b || is_some (item_at cmp s y)))
          [ true ↦ refl | false ↦ of_items ]

      there_without : is_some (item_at cmp (without cmp s x) y) ≡ (not (is_eq (cmp y x)) && is_some (item_at cmp s y))
      there_without =
          ap (λ l. is_some (item_at cmp l y)) cut_pairs ∙ of_keys (cut cmp (pairs s) x) ∙ ap is_some (value_cut cmp total (pairs s) x y)
          ∙ elim (is_eq (cmp y x)) as (λ b. is_some (cond b None (value_at cmp (pairs s) y)) ≡ (not b && is_some (item_at cmp s y)))
          [ true ↦ refl | false ↦ of_items ]

pub key_order_total : {K I : Type 0} (cmp : K → K → Ordering) (ids : I → I → Ordering) → IsTotalOrder cmp → IsTotalOrder ids
    → IsTotalOrder (key_then_id cmp ids)
key_order_total cmp ids total totals = then_total (on_total (λ t. t.0) total) (on_total (λ t. t.1) totals)

module _ {K I R : Type 0} (cmp : K → K → Ordering) (ids : I → I → Ordering) (key : R → K) (total : IsTotalOrder cmp) (totals : IsTotalOrder ids) where
  abbrev order : K × I → K × I → Ordering
  order = key_then_id cmp ids

  order_total : IsTotalOrder order
  order_total = key_order_total cmp ids total totals

  -- At an id of which it is known whether it is the given one, and whether its key is equal to the new or to the old one: what stands in an index with an item
  -- more, or fewer, and which row is there.
  one_new : (a b : Bool) (r : R) (k : K) (v : Option R) → (b ≡ true → v ≡ None) → a ≡ is_eq (cmp k (key r))
      → ((a && b) || has_key cmp key v k) ≡ has_key cmp key (cond b (Some r) v) k
  one_new true true r k v none same = same
  one_new false true r k v none same = ap (λ w. has_key cmp key w k) (none refl) ∙ same
  one_new true false r k v none same = refl
  one_new false false r k v none same = refl

  one_fewer : (a b : Bool) (old : R) (k : K) (v : Option R) → (b ≡ true → v ≡ Some old) → a ≡ is_eq (cmp k (key old))
      → (not (a && b) && has_key cmp key v k) ≡ has_key cmp key (cond b None v) k
  one_fewer true true old k v held same = refl
  one_fewer false true old k v held same = ap (λ w. has_key cmp key w k) (held refl) ∙ sym same
  one_fewer true false old k v held same = refl
  one_fewer false false old k v held same = refl

  one_kept : (a b : Bool) (old r : R) (k : K) (v : Option R) → (b ≡ true → v ≡ Some old) → a ≡ is_eq (cmp k (key r)) → a ≡ is_eq (cmp k (key old))
      → ((a && b) || has_key cmp key v k) ≡ has_key cmp key (cond b (Some r) v) k
  one_kept true true old r k v held new same = new
  one_kept false true old r k v held new same = ap (λ w. has_key cmp key w k) (held refl) ∙ sym same ∙ new
  one_kept true false old r k v held new same = refl
  one_kept false false old r k v held new same = refl

  one_other : (a c b : Bool) (old r : R) (k : K) (v : Option R) → (b ≡ true → v ≡ Some old) → a ≡ is_eq (cmp k (key r)) → c ≡ is_eq (cmp k (key old))
      → (a ≡ true → c ≡ false) → (not (c && b) && ((a && b) || has_key cmp key v k)) ≡ has_key cmp key (cond b (Some r) v) k
  one_other true true true old r k v held new same apart = absurd (let both : true ≡ false = apart refl in cc)
  one_other true false true old r k v held new same apart = new
  one_other false true true old r k v held new same apart = new
  one_other false false true old r k v held new same apart = ap (λ w. has_key cmp key w k) (held refl) ∙ sym same ∙ new
  one_other true true false old r k v held new same apart = refl
  one_other true false false old r k v held new same apart = refl
  one_other false true false old r k v held new same apart = refl
  one_other false false false old r k v held new same apart = refl

  held_at : (rows : List (I × R)) (i : I) (v : Option R) → value_at ids rows i ≡ v → (j : I) → is_eq (ids j i) ≡ true → value_at ids rows j ≡ v
  held_at rows i v held j e = value_at_equal ids rows i j totals (is_equal (ids j i) e) ∙ held

  turned : (o : Ordering) → is_eq (ordering_reverse o) ≡ is_eq o
  turned Less = refl
  turned Equal = refl
  turned Greater = refl

  -- a key that is equal to one of two is equal to the other where these are equal
  equal_both : (x y k : K) → is_eq (cmp x y) ≡ true → is_eq (cmp k y) ≡ is_eq (cmp k x)
  equal_both x y k e = ap is_eq (sym (alike_right total x y k (is_equal (cmp x y) e)))

  equal_one : (x y k : K) → is_eq (cmp x y) ≡ false → is_eq (cmp k y) ≡ true → is_eq (cmp k x) ≡ false
  equal_one x y k n e = ap is_eq (total.congr k y x (is_equal (cmp k y) e) ∙ total.antisymm y x) ∙ turned (cmp x y) ∙ n

  module _ (rows : List (I × R)) (index : List (K × I)) (listed : Lists cmp ids key rows index) (a : IsAscending ids rows) (i : I) where
    -- whether the item of a key and the id is there
    there : (v : Option R) → value_at ids rows i ≡ v → (k : K) → is_some (item_at order index (k, i)) ≡ has_key cmp key v k
    there v e k = listed.exact k i ∙ ap (λ w. has_key cmp key w k) e

    own : (old : R) → value_at ids rows i ≡ Some old → is_some (item_at order index (key old, i)) ≡ true
    own old held = there (Some old) held (key old) ∙ ap is_eq (tied_itself total (key old))

    -- A row that is taken out takes its item with it.
    lists_cut : (old : R) → value_at ids rows i ≡ Some old → AreAscending order (without order index (key old, i))
        → Lists cmp ids key (cut ids rows i) (without order index (key old, i))
    lists_cut old held ascends = record {
      ascending = ascends;
      many = omega (
        arith,
        length_without_there order order_total index (key old, i) listed.ascending (own old held),
        length_cut_there ids rows i totals a (at_some ids rows i old held),
        listed.many,
      );
      exact = λ k j. there_without order order_total index (key old, i) (k, j)
          ∙ rw (both_equal (cmp k (key old)) (ids j i), listed.exact k j, value_cut ids totals rows i j)
          (one_fewer (is_eq (cmp k (key old))) (is_eq (ids j i)) old k (value_at ids rows j) (held_at rows i (Some old) held j) refl);
    }

    -- A row at a new id brings its item along.
    lists_new : (r : R) → value_at ids rows i ≡ None → AreAscending order (with_item order index (key r, i))
        → Lists cmp ids key (put ids rows i r) (with_item order index (key r, i))
    lists_new r none ascends = record {
      ascending = ascends;
      many = length_with_new order order_total index (key r, i) listed.ascending (there None none (key r))
          ∙ ap (λ n. n + 1) listed.many ∙ sym (length_put_new ids rows i r totals a (at_none ids rows i none));
      exact = λ k j. there_with order order_total index (key r, i) (k, j)
          ∙ rw (both_equal (cmp k (key r)) (ids j i), listed.exact k j, value_put ids totals rows i j r)
          (one_new (is_eq (cmp k (key r))) (is_eq (ids j i)) r k (value_at ids rows j) (held_at rows i None none j) refl);
    }

    -- A row in the place of one with an equal key needs no item, whether that of its key is put in or not.
    lists_equal : (old r : R) → value_at ids rows i ≡ Some old → is_eq (cmp (key old) (key r)) ≡ true → AreAscending order (with_item order index (key r, i))
        → Lists cmp ids key (put ids rows i r) (with_item order index (key r, i))
    lists_equal old r held same ascends = record {
      ascending = ascends;
      many = length_with_there order order_total index (key r, i) listed.ascending (there (Some old) held (key r)
          ∙ sym (equal_both (key old) (key r) (key r) same) ∙ ap is_eq (tied_itself total (key r)))
          ∙ listed.many ∙ sym (length_put_there ids rows i r totals a (at_some ids rows i old held));
      exact = λ k j. there_with order order_total index (key r, i) (k, j)
          ∙ rw (both_equal (cmp k (key r)) (ids j i), listed.exact k j, value_put ids totals rows i j r)
          (one_kept (is_eq (cmp k (key r))) (is_eq (ids j i)) old r k (value_at ids rows j) (held_at rows i (Some old) held j) refl
          (equal_both (key old) (key r) k same));
    }

    -- A row in the place of one with another key brings its item along, and that of the other goes.
    lists_other : (old r : R) → value_at ids rows i ≡ Some old → is_eq (cmp (key old) (key r)) ≡ false → AreAscending order (with_item order index (key r, i))
        → AreAscending order (without order (with_item order index (key r, i)) (key old, i))
        → Lists cmp ids key (put ids rows i r) (without order (with_item order index (key r, i)) (key old, i))
    lists_other old r held apart between ascends =
        let more = with_item order index (key r, i) in
        let new : is_some (item_at order index (key r, i)) ≡ false = there (Some old) held (key r) ∙ sym (turned (cmp (key r) (key old)))
        ∙ ap is_eq (sym (total.antisymm (key old) (key r))) ∙ apart in
        let stays : is_some (item_at order more (key old, i)) ≡ true = there_with order order_total index (key r, i) (key old, i)
        ∙ rw (own old held) (or_true (is_eq (order (key old, i) (key r, i)))) in
        record {
          ascending = ascends;
          many = omega (
            arith,
            length_without_there order order_total more (key old, i) between stays,
            length_with_new order order_total index (key r, i) listed.ascending new,
            listed.many,
            length_put_there ids rows i r totals a (at_some ids rows i old held),
          );
          exact = λ k j. there_without order order_total more (key old, i) (k, j)
              ∙ rw (
                both_equal (cmp k (key old)) (ids j i),
                there_with order order_total index (key r, i) (k, j),
                both_equal (cmp k (key r)) (ids j i),
                listed.exact k j,
                value_put ids totals rows i j r,
              )
              (one_other (is_eq (cmp k (key r))) (is_eq (cmp k (key old))) (is_eq (ids j i)) old r k (value_at ids rows j) (held_at rows i (Some old) held j)
              refl refl (equal_one (key old) (key r) k apart));
        }

    -- A row in the place of one with the same key leaves the index as it is.
    lists_kept : (old r : R) → value_at ids rows i ≡ Some old → key r ≡ key old → Lists cmp ids key (put ids rows i r) index
    lists_kept old r held same = record {
      ascending = listed.ascending;
      many = listed.many ∙ sym (length_put_there ids rows i r totals a (at_some ids rows i old held));
      exact = λ k j. listed.exact k j ∙ rw (value_put ids totals rows i j r) (go k (is_eq (ids j i)) (value_at ids rows j) (held_at rows i (Some old) held j));
    }
      where
        go : (k : K) (b : Bool) (v : Option R) → (b ≡ true → v ≡ Some old) → has_key cmp key v k ≡ has_key cmp key (cond b (Some r) v) k
        go k true v h = ap (λ w. has_key cmp key w k) (h refl) ∙ ap (λ a. is_eq (cmp k a)) (sym same)
        go k false v h = refl

    -- A row that is put brings its item along, and takes out that of the one that it replaces, if that one's key is another.
    lists_put : (r : R) (o : Option R) → value_at ids rows i ≡ o → AreAscending order (with_item order index (key r, i))
        → AreAscending order (without_old cmp ids (with_item order index (key r, i)) (option_map key o) (key r) i)
        → Lists cmp ids key (put ids rows i r) (without_old cmp ids (with_item order index (key r, i)) (option_map key o) (key r) i)
    lists_put r None e between ascends = lists_new r e ascends
    lists_put r (Some old) e between ascends = go (is_eq (cmp (key old) (key r))) refl ascends
      where
        left : Bool → List (K × I)
        left b = cond b (with_item order index (key r, i)) (without order (with_item order index (key r, i)) (key old, i))

        go : (b : Bool) → is_eq (cmp (key old) (key r)) ≡ b → AreAscending order (left b) → Lists cmp ids key (put ids rows i r) (left b)
        go true same ascends = lists_equal old r e same ascends
        go false apart ascends = lists_other old r e apart between ascends

    -- The same of lists of which it is known that they are these.
    module _ (more : List (I × R)) where
      pub listed_put : (r : R) (old : Option R) (added rest : List (K × I)) (k : Option K) → more ≡ put ids rows i r → old ≡ value_at ids rows i
          → added ≡ with_item order index (key r, i) → rest ≡ without_old cmp ids added k (key r) i → k ≡ option_map key old
          → AreAscending order added → AreAscending order rest → Lists cmp ids key more rest
      listed_put r old added rest k put_in held with_new left of_old between ascends =
          let is : rest ≡ without_old cmp ids (with_item order index (key r, i)) (option_map key old) (key r) i =
          left ∙ (λ n. without_old cmp ids (with_new n) (of_old n) (key r) i) in
          rw (put_in, is) (lists_put r old (sym held) (subst (AreAscending order) with_new between) (subst (AreAscending order) is ascends))

      pub listed_back : (k : K) (new : Bool) (added rest : List (K × I)) → more ≡ rows → IsTrue new ↔ (item_at order index (k, i) ≡ None)
          → added ≡ with_item order index (k, i) → rest ≡ cond new (without order added (k, i)) added → Lists cmp ids key more rest
      listed_back k new added rest same is put_in left =
          rw (same, taken_back order order_total index (k, i) new added rest listed.ascending is put_in left) listed

      pub listed_cut : (old : R) (items : List (K × I)) → more ≡ cut ids rows i → items ≡ without order index (key old, i) → value_at ids rows i ≡ Some old
          → AreAscending order items → Lists cmp ids key more items
      listed_cut old items a b held ascends = rw (a, b) (lists_cut old held (subst (AreAscending order) b ascends))

      pub listed_kept : (old r : R) → more ≡ put ids rows i r → value_at ids rows i ≡ Some old → key r ≡ key old → Lists cmp ids key more index
      listed_kept old r a held same = rw a (lists_kept old r held same)

-- As many items as rows refuse one more.
pub refused_at : (n : ℕ) {a b : ℕ} (e : TryReserveError) → a ≡ n → b ≡ n → MayGrowRefuse a e ⊎ MayGrowRefuse b e → MayGrowRefuse n e
refused_at n e i j (inl r) = subst (λ m. MayGrowRefuse m e) i r
refused_at n e i j (inr r) = subst (λ m. MayGrowRefuse m e) j r

-- Where the row at an id has not both keys, one of them is new to its index, and where one is, it has not both.
module _ {I A B V : Type 0} (firsts : A → A → Ordering) (seconds : B → B → Ordering) (ids : I → I → Ordering) (rows : List (I × Keyed A B V))
    (by_first : List (A × I)) (by_second : List (B × I)) (i : Lists firsts ids (λ r. r.first) rows by_first)
    (j : Lists seconds ids (λ r. r.second) rows by_second) (id : I) (a : A) (b : B) where
  pub new_one : has_both firsts seconds (value_at ids rows id) a b ≡ false → IsNewKey firsts ids by_first a id ⊎ IsNewKey seconds ids by_second b id
  new_one h = go _ _ refl refl h
    where
      go : (p q : Bool) → has_key firsts (λ (r : Keyed A B V). r.first) (value_at ids rows id) a ≡ p
          → has_key seconds (λ (r : Keyed A B V). r.second) (value_at ids rows id) b ≡ q → (p && q) ≡ false
          → IsNewKey firsts ids by_first a id ⊎ IsNewKey seconds ids by_second b id
      go false q e f h = inl (is_new _ (i.exact a id ∙ e))
      go true false e f h = inr (is_new _ (j.exact b id ∙ f))
      go true true e f h = absurd cc

  pub not_both : IsNewKey firsts ids by_first a id ⊎ IsNewKey seconds ids by_second b id → has_both firsts seconds (value_at ids rows id) a b ≡ false
  not_both (inl n) = ap (λ p. p && has_key seconds (λ r. r.second) (value_at ids rows id) b) (sym (i.exact a id) ∙ ap is_some n)
  not_both (inr n) = ap (λ q. has_key firsts (λ r. r.first) (value_at ids rows id) a && q) (sym (j.exact b id) ∙ ap is_some n)
      ∙ and_false (has_key firsts (λ r. r.first) (value_at ids rows id) a)

-- A value that is put with the keys of a row is set.
pub value_set : {I A B V : Type 0} (ids : I → I → Ordering) (id : I) (old value given : V) (rows before after : List (I × Keyed A B V))
    (row : Keyed A B V) → rows ≡ before → value_at ids rows id ≡ Some row → old ≡ row.value → given ≡ value
    → after ≡ put ids rows id (record { first = row.first; second = row.second; value = given }) → IsValueSet ids id old value before after
value_set ids id old value given rows before after row same held had is set = rw (← same, ← is) (record {
  row = row;
  there = held;
  had = sym had;
  set = set;
})
