-- The items between two edges are those whose keys lie within the bounds, and these are of the rows whose keys do.
use Rattle.std.proofs.Common.{◌≡◌, Bool, true, false, cond, List, [], ◌∷◌, Some, refl, sym, ap, ◌∙◌, subst}
use Rattle.std.specs.Prelude.{◌&&◌, is_some}
use Rattle.std.specs.List.{filter, find}
use Rattle.std.specs.Ordering.{ordering_then, is_eq, is_ge, is_gt, is_le, is_lt}
use Rattle.std.specs.Cmp.{IsTotalOrder}
use Rattle.std.specs.declared.cmp.Ordering.{Ordering}
use Rattle.std.specs.declared.cmp.Ordering.TheVariants.{Less, Equal, Greater}
use Rattle.std.specs.declared.ops.Bound.{Bound}
use Rattle.std.specs.declared.ops.Bound.TheVariants.{Included, Excluded, Unbounded}
use Rattle.fc_base.specs.Ranges.{starts, stops}
use Rattle.fc_set.specs.Items.{items_within, AreAscending}
use Rattle.fc_set.proofs.SideFacts.{ascending_kept}
use Rattle.fc_index.specs.Edges.{edge_order, side, start_edge, end_edge}
use Rattle.fc_index.specs.Rows.{key_then_id, lies, Lists, AreByKey}

from_front : (o : Ordering) → is_ge (ordering_then o (side true)) ≡ is_ge o
from_front Less = refl
from_front Equal = refl
from_front Greater = refl

from_back : (o : Ordering) → is_ge (ordering_then o (side false)) ≡ is_gt o
from_back Less = refl
from_back Equal = refl
from_back Greater = refl

to_front : (o : Ordering) → is_le (ordering_then o (side true)) ≡ is_lt o
to_front Less = refl
to_front Equal = refl
to_front Greater = refl

to_back : (o : Ordering) → is_le (ordering_then o (side false)) ≡ is_le o
to_back Less = refl
to_back Equal = refl
to_back Greater = refl

same_filter : {X : Type 0} (p q : X → Bool) → ((x : X) → p x ≡ q x) → (s : List X) → filter p s ≡ filter q s
same_filter p q same [] = refl
same_filter p q same (x ∷ s) = ap (λ b. cond b (x ∷ filter p s) (filter p s)) (same x) ∙ ap (λ r. cond (q x) (x ∷ r) r) (same_filter p q same s)

module _ {K I : Type 0} (cmp : K → K → Ordering) where
  starts_same : (lo : Bound K) (x : K × I) → starts (edge_order cmp) (start_edge lo) x ≡ starts cmp lo x.0
  starts_same (Included k) x = from_front (cmp x.0 k)
  starts_same (Excluded k) x = from_back (cmp x.0 k)
  starts_same Unbounded x = refl

  stops_same : (hi : Bound K) (x : K × I) → stops (edge_order cmp) (end_edge hi) x ≡ stops cmp hi x.0
  stops_same (Included k) x = to_back (cmp x.0 k)
  stops_same (Excluded k) x = to_front (cmp x.0 k)
  stops_same Unbounded x = refl

  edged : (lo hi : Bound K) (s : List (K × I)) → items_within (edge_order cmp) (start_edge lo) (end_edge hi) s ≡ filter (λ x. lies cmp lo hi x.0) s
  edged lo hi s = same_filter _ (λ x. lies cmp lo hi x.0) same s
    where
      same : (x : K × I) → (starts (edge_order cmp) (start_edge lo) x && stops (edge_order cmp) (end_edge hi) x) ≡ lies cmp lo hi x.0
      same x = rw (starts_same lo x, stops_same hi x) refl

module _ {K : Type 0} (cmp : K → K → Ordering) (total : IsTotalOrder cmp) (x y : K) (same : cmp x y ≡ Equal) where
  starts_equal : (lo : Bound K) → starts cmp lo x ≡ starts cmp lo y
  starts_equal (Included k) = ap is_ge (total.congr x y k same)
  starts_equal (Excluded k) = ap is_gt (total.congr x y k same)
  starts_equal Unbounded = refl

  stops_equal : (hi : Bound K) → stops cmp hi x ≡ stops cmp hi y
  stops_equal (Included k) = ap is_le (total.congr x y k same)
  stops_equal (Excluded k) = ap is_lt (total.congr x y k same)
  stops_equal Unbounded = refl

  -- Equal keys lie within the same bounds.
  pub lies_equal : (lo hi : Bound K) → lies cmp lo hi x ≡ lies cmp lo hi y
  lies_equal lo hi = ap (λ b. b && stops cmp hi x) (starts_equal lo) ∙ ap (λ b. starts cmp lo y && b) (stops_equal hi)

-- the key parts of items that are equal are
first_equal : (o p : Ordering) → is_eq (ordering_then o p) ≡ true → o ≡ Equal
first_equal Less p h = absurd cc
first_equal Equal p h = refl
first_equal Greater p h = absurd cc

module _ {X : Type 0} (q p : X → Bool) (b : Bool) (like : (x : X) → q x ≡ true → p x ≡ b) where
  -- an item is found in a filtered list where its like pass the filter and it is found in the list
  found_filtered : (s : List X) → is_some (find q (filter p s)) ≡ (b && is_some (find q s))
  found_filtered [] = none b
    where
      none : (c : Bool) → false ≡ (c && false)
      none true = refl
      none false = refl
  found_filtered (x ∷ s) = go (q x) (p x) refl refl (found_filtered s)
    where
      go : (c d : Bool) → q x ≡ c → p x ≡ d → is_some (find q (filter p s)) ≡ (b && is_some (find q s))
          → is_some (find q (cond d (x ∷ filter p s) (filter p s))) ≡ (b && is_some (cond c (Some x) (find q s)))
      go true true e f more = rw e (ap (λ y. y && true) (sym f ∙ like x e))
      go true false e f more = more ∙ ap (λ y. y && is_some (find q s)) (sym (like x e) ∙ f) ∙ ap (λ y. y && true) (sym f ∙ like x e)
      go false true e f more = rw e more
      go false false e f more = more

module _ {K I R : Type 0} (cmp : K → K → Ordering) (ids : I → I → Ordering) (key : R → K) (total : IsTotalOrder cmp)
    (rows : List (I × R)) (index : List (K × I)) (listed : Lists cmp ids key rows index) (up : AreAscending (key_then_id cmp ids) index) where
  -- The items between two edges of an index are those of the rows whose keys lie within the bounds.
  walk_by_key : (lo hi : Bound K) → AreByKey cmp ids key (lies cmp lo hi) rows (items_within (edge_order cmp) (start_edge lo) (end_edge hi) index)
  walk_by_key lo hi = subst (λ walk. AreByKey cmp ids key (lies cmp lo hi) rows walk) (sym (edged cmp lo hi index)) (record {
    ascending = ascending_kept (key_then_id cmp ids) (λ x. lies cmp lo hi x.0) index up;
    exact = λ k i. found_filtered (λ x. is_eq (key_then_id cmp ids x (k, i))) (λ x. lies cmp lo hi x.0) (lies cmp lo hi k)
        (λ x h. lies_equal cmp total x.0 k (first_equal (cmp x.0 k) (ids x.1 i) h) lo hi) index
        ∙ ap (λ b. lies cmp lo hi k && b) (listed.exact k i);
  })

  -- The same of rows and a walk of which it is known that they are these.
  pub walked_by_key : (lo hi : Bound K) (now : List (I × R)) (walk : List (K × I)) → rows ≡ now
      → walk ≡ items_within (edge_order cmp) (start_edge lo) (end_edge hi) index → AreByKey cmp ids key (lies cmp lo hi) now walk
  walked_by_key lo hi now walk same is = rw (← same, is) (walk_by_key lo hi)
