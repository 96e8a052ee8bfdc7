-- A map while many items are put in: those that came out of order stand beside its pairs, and are put in together.
use Rattle.std.specs.Prelude.{◌≡◌, ℕ, ◌<◌, List, ◌++◌}
use Rattle.std.specs.declared.cmp.Ordering.{Ordering}
use Rattle.fc_base.specs.Extended.{extended}
use Rattle.fc_map.specs.BulkInsert.{Inserting}

-- The pairs so far, and the items that are gathered, which are not put in yet; how many of the pairs stand in the map, none as long as the tree is
-- open at its right edge; and how many more items out of order go in one by one.
pub record Loading (K V : Type 0) : Type 0 where
  pub placed : List (K × V)
  pub gathered : List (K × V)
  pub closed : ℕ
  pub single : ℕ

module _ {K V : Type 0} where
  -- What a contract sees of a load.
  abbrev pub loading : Inserting K V → List (K × V) → ℕ → Loading K V
  loading placed gathered single = record { placed = placed.pairs; gathered = gathered; closed = placed.closed; single = single }

  -- The tree is open, and no item is gathered.
  abbrev pub IsOpen : Loading K V → Type 0
  IsOpen l = (l.closed ≡ 0) × (0 < l.single)

module _ {K V : Type 0} (cmp : K → K → Ordering) where
  -- Of the items a front was put into the pairs that were there, in turn, and those after it are gathered.
  pub record IsLoaded (old items : List (K × V)) (new : Loading K V) : Type 0 where
    pub front : List (K × V)
    pub parts : items ≡ front ++ new.gathered
    pub put_in : new.placed ≡ extended cmp old front
