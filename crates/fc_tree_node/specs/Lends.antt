-- What ends as it was left where a child is lent.
use Rattle.std.specs.Prelude.{ℕ, List, slice_set, Option, Some}
use Rattle.std.specs.Option.{option_map}
use Rattle.std.specs.Borrow.{Fml, RattleType, MutBor, Lends}
use Rattle.std.specs.contracts.option.Option as option
use Rattle.core.specs.declared.alloc.Allocator.{Ghosts}
use Rattle.fc_tree_slots.specs.contracts.children.Children as children

-- Once the borrow r of what is in `Some` ends, it is there what was left after r.
abbrev pub lends_content : (T : RattleType) → MutBor (Option T.Denot) → MutBor T.Denot → Fml
lends_content T o r = Lends (option.the_row T) T o r Some

module _ (T A : RattleType) (heap : Ghosts A.Denot) where
  -- Once the borrow r of the child at the place ends, the children have there what was left after r.
  abbrev pub lends_child_in : MutBor (Option (List T.Denot)) → ℕ → MutBor T.Denot → Fml
  lends_child_in o i r = Lends (option.the_row (children.the_row T A heap)) T o r (λ c. option_map (λ cs. slice_set cs i c) o.now)
