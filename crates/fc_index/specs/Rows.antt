-- A table as contracts see it: the list of its rows by their ids, and what lists them by a second key.
use Rattle.std.specs.Prelude.{◌≡◌, ◌&&◌, Bool, false, List, Option, Some, None, is_some, length, cond}
use Rattle.std.specs.Ordering.{is_eq, ordering_then}
use Rattle.std.specs.declared.cmp.Ordering.{Ordering}
use Rattle.std.specs.declared.ops.Bound.{Bound}
use Rattle.fc_base.specs.OneKey.{put}
use Rattle.fc_base.specs.Parts.{value_at}
use Rattle.fc_base.specs.Ranges.{starts, stops}
use Rattle.fc_set.specs.Items.{item_at, without, AreAscending}
use Rattle.fc_index.specs.declared.keyed.Keyed.{Keyed}

-- The order of a key and an id: that of the keys, and where these are equal, that of the ids.
abbrev pub key_then_id : {K I : Type 0} → (K → K → Ordering) → (I → I → Ordering) → K × I → K × I → Ordering
key_then_id cmp ids a b = ordering_then (cmp a.0 b.0) (ids a.1 b.1)

-- A key and an id stand in an index not yet.
abbrev pub IsNewKey : {K I : Type 0} → (K → K → Ordering) → (I → I → Ordering) → List (K × I) → K → I → Type 0
IsNewKey cmp ids index k i = item_at (key_then_id cmp ids) index (k, i) ≡ None

-- Whether a key lies within two bounds.
abbrev pub lies : {K : Type 0} → (K → K → Ordering) → Bound K → Bound K → K → Bool
lies cmp lo hi k = starts cmp lo k && stops cmp hi k

-- Whether a row is there, and k is equal to its key.
abbrev pub has_key : {K R : Type 0} → (K → K → Ordering) → (R → K) → Option R → K → Bool
has_key cmp key None k = false
has_key cmp key (Some r) k = is_eq (cmp k (key r))

-- Whether a row is there, and a and b are equal to its two keys.
abbrev pub has_both : {A B V : Type 0} → (A → A → Ordering) → (B → B → Ordering) → Option (Keyed A B V) → A → B → Bool
has_both firsts seconds row a b = has_key firsts (λ r. r.first) row a && has_key seconds (λ r. r.second) row b

module _ {K I R : Type 0} (cmp : K → K → Ordering) (ids : I → I → Ordering) (key : R → K) where
  -- The index lists exactly the rows, in order: it has as many items as there are rows, and a key and an id stand in it where a row of that key is at the id,
  -- and nowhere else.
  pub record Lists (rows : List (I × R)) (index : List (K × I)) : Type 0 where
    pub ascending : AreAscending (key_then_id cmp ids) index
    pub many : length index ≡ length rows
    pub exact : (k : K) (i : I) → is_some (item_at (key_then_id cmp ids) index (k, i)) ≡ has_key cmp key (value_at ids rows i) k

  -- The walk has exactly the rows whose keys are chosen, each once, as its key and its id, in the order of the keys, and of the ids where keys are equal.
  pub record AreByKey (chosen : K → Bool) (rows : List (I × R)) (walk : List (K × I)) : Type 0 where
    pub ascending : AreAscending (key_then_id cmp ids) walk
    pub exact : (k : K) (i : I) → is_some (item_at (key_then_id cmp ids) walk (k, i)) ≡ (chosen k && has_key cmp key (value_at ids rows i) k)

-- The index without the item of an old key and an id, if there is an old key, and it is not equal to the new one.
abbrev pub without_old : {K I : Type 0} → (K → K → Ordering) → (I → I → Ordering) → List (K × I) → Option K → K → I → List (K × I)
without_old cmp ids index None new id = index
without_old cmp ids index (Some old) new id = cond (is_eq (cmp old new)) index (without (key_then_id cmp ids) index (old, id))

-- The row at an id, which has its keys still, has another value in the place of an old one.
pub record IsValueSet {I A B V : Type 0} (ids : I → I → Ordering) (id : I) (old value : V) (before after : List (I × Keyed A B V)) : Type 0 where
  pub row : Keyed A B V
  pub there : value_at ids before id ≡ Some row
  pub had : row.value ≡ old
  pub set : after ≡ put ids before id (record { first = row.first; second = row.second; value = value })
