-- What a vector ends as, where its items are lent for writing.
use Rattle.std.specs.Prelude.{ℕ, List, ◌++◌, length, take, drop, Option, slice_set}
use Rattle.std.specs.Borrow.{Lends, LendsIf, follows, Fml, RattleType, MutBor, Array}
use Rattle.std.specs.declared.slice.IterMut.{IterMut}
use Rattle.std.specs.Slice.Iter.{iter_mut_name}
use Rattle.std.specs.Prelude.{vec_capacity}
use Rattle.std.specs.Vec.Iter.{drain_lender}
use Rattle.std.specs.declared.vec.Drain.{Drain}
use Rattle.std.specs.declared.alloc.Allocator.{Ghosts}
use Rattle.std.specs.declared.alloc.Global.{Global}
use Rattle.std.specs.contracts.vec.Vec as vec
use Rattle.std.specs.contracts.alloc.Global as global
use Rattle.std.specs.contracts.impls.GlobalAllocator.TheImpl.{ghosts}
use Rattle.fc_vec.specs.Vectors.{Vector}
use Rattle.fc_vec.specs.contracts.vec.try_vec.TryVec.{the_row}

-- The vector with these items written over its own, of which there stay as many.
abbrev pub with_items : {T : Type 0} → Vector T → List T → Vector T
with_items v xs = record { items = take (length v.items) (xs ++ drop (length xs) v.items); room = v.room }

-- The vector with this item at a place of it.
abbrev pub item_written : {T : Type 0} → Vector T → ℕ → T → Vector T
item_written v i x = record { items = slice_set v.items i x; room = v.room }

module _ (T Z : RattleType) (heap : Ghosts Z.Denot) (v : MutBor (Vector T.Denot)) where
  -- Once the borrow ends, the items are those that it shows last.
  abbrev pub lends_slice_in : MutBor (List T.Denot) → Fml
  lends_slice_in r = Lends (the_row T Z heap) (Array T 0) v r (with_items v.now)

  -- The same where the items went to a writing walk.
  abbrev pub lends_walk_in : IterMut T.Denot → Fml
  lends_walk_in it = follows (the_row T Z heap) (Array T 0) v.ghost_name (iter_mut_name it) (with_items v.now)

  -- Once the borrow ends, the item at i is what it shows last.
  abbrev pub lends_item_in : ℕ → MutBor T.Denot → Fml
  lends_item_in i r = Lends (the_row T Z heap) T v r (item_written v.now i)

  -- The same where there is such an item; where there is none, the vector stays as it is.
  abbrev pub lends_item_if_in : ℕ → Option (MutBor T.Denot) → Fml
  lends_item_if_in i r = LendsIf (the_row T Z heap) T v r (item_written v.now i) v.now

  -- Once the walk is dropped, items and room are those that it leaves in std's vector.
  abbrev pub lends_drain_in : Drain T.Denot Z.Denot → Fml
  lends_drain_in d = follows (the_row T Z heap) (vec.the_row T Z heap) v.ghost_name (drain_lender d) (λ w. record { items = w.items; room = vec_capacity w })

-- The same of a vector that takes its memory from `Global`.
module _ (T : RattleType) (v : MutBor (Vector T.Denot)) where
  abbrev pub lends_slice : MutBor (List T.Denot) → Fml
  lends_slice r = lends_slice_in T global.the_row ghosts v r

  abbrev pub lends_walk : IterMut T.Denot → Fml
  lends_walk it = lends_walk_in T global.the_row ghosts v it

  abbrev pub lends_item : ℕ → MutBor T.Denot → Fml
  lends_item i r = lends_item_in T global.the_row ghosts v i r

  abbrev pub lends_item_if : ℕ → Option (MutBor T.Denot) → Fml
  lends_item_if i r = lends_item_if_in T global.the_row ghosts v i r

  abbrev pub lends_drain : Drain T.Denot Global → Fml
  lends_drain d = lends_drain_in T global.the_row ghosts v d
