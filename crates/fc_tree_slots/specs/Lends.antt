-- What rows, cells and lists end as, where a `&mut` to an item is returned.
use Rattle.std.specs.Prelude.{ℕ, List, slice_set, Option, Some}
use Rattle.std.specs.Borrow.{Lends, Fml, RattleType, MutBor}
use Rattle.core.specs.declared.alloc.Allocator.{Ghosts}
use Rattle.fc_tree_slots.specs.declared.raw.Row.{Row}
use Rattle.fc_tree_slots.specs.contracts.raw.Row as rows
use Rattle.fc_tree_slots.specs.contracts.cells.Cells as cells
use Rattle.fc_tree_slots.specs.contracts.slots.Slots as slots
use Rattle.fc_tree_slots.specs.contracts.children.Children as children

abbrev pub with_place : {X Z : Type 0} → Row X Z → ℕ → Option X → Row X Z
with_place r i c = record r { held = slice_set r.held i c }

-- what is written last through the borrow r stands at the index once r has ended
module _ (T A : RattleType) (heap : Ghosts A.Denot) where
  abbrev pub lends_held : MutBor (Row T.Denot A.Denot) → ℕ → MutBor T.Denot → Fml
  lends_held p i r = Lends (rows.the_row T A heap) T p r (λ x. with_place p.now i (Some x))

  abbrev pub lends_cell : MutBor (List (Option T.Denot)) → ℕ → MutBor T.Denot → Fml
  lends_cell c i r = Lends (cells.the_row T A heap) T c r (λ x. slice_set c.now i (Some x))

  abbrev pub lends_child : MutBor (List T.Denot) → ℕ → MutBor T.Denot → Fml
  lends_child v i r = Lends (children.the_row T A heap) T v r (slice_set v.now i)

  abbrev pub lends_slot : RattleType → MutBor (List T.Denot) → ℕ → MutBor T.Denot → Fml
  lends_slot N v i r = Lends (slots.the_row T N A heap) T v r (slice_set v.now i)
