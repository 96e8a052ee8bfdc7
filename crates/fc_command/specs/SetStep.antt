-- What a command on sets does to two sets, and what it answers.
use Rattle.std.specs.Prelude.{◌≡◌, ◌+◌, ◌-◌, ◌^◌, ◌<◌, ⊤, Bool, true, false, List, [], ◌∷◌, length, map, Some, None, is_some, is_none, IsTrue, if◌then◌else◌}
use Rattle.std.specs.Cmp.Lexicographic.{slice_cmp}
use Rattle.std.specs.declared.cmp.Ordering.{Ordering}
use Rattle.fc_base.specs.declared.try_reserve_error.TryReserveError.{TryReserveError}
use Rattle.fc_base.specs.declared.try_reserve_error.TryReserveError.TheVariants.{AllocError}
use Rattle.fc_base.specs.Copies.{MayRefuseCopies}
use Rattle.fc_base.specs.Growth.{MayGrowRefuse, MayAppendRefuse}
use Rattle.fc_base.specs.Ranges.{is_range}
use Rattle.fc_map.specs.Entries.{Map}
use Rattle.fc_set.specs.Copied.{MayCopyRefuse}
use Rattle.fc_set.specs.Items.{items, item_at, smaller, not_smaller, without, with_item, with_replaced, items_within, joined_items, extended_items, AreExtendedUpTo}
use Rattle.fc_set.specs.Operations.{difference, symmetric_difference, intersection, union}
use Rattle.fc_lines.specs.declared.command.SetOp.{SetOp}
use Rattle.fc_lines.specs.declared.command.SetOp.TheVariants.{Difference, SymmetricDifference, Intersection, Union}
use Rattle.fc_command.specs.declared.command.kinds.SetCommand.{SetCommand}
use Rattle.fc_command.specs.declared.command.kinds.SetCommand.TheVariants.{AddItem, ReplaceItem, TakeItem, RemoveItem, ContainsItem, GetItem, SetLen, SetClear, SetAppend, SetSplitOff, SetClone, SetExtend, SetWalk, List as ListItems, Keep, IsDisjoint, IsSubset, IsSuperset, SetCmp}
use Rattle.fc_lines.specs.declared.command.Reply.{Reply}
use Rattle.fc_lines.specs.declared.command.Reply.TheVariants.{Done, Flag, Key, Keys, Len, Order, BadRange, Refused, ItemGivenBack}
use Rattle.fc_command.specs.Walks.{walked, MayRefuseFound}

-- What a command makes of the items m of the named set and of the items o of the other, and its reply.
pub record SetOutcome (K V : Type 0) : Type 0 where
  pub m : List K
  pub o : List K
  pub reply : Reply K V

-- Whether a list has no item.
abbrev pub has_none : {A : Type 0} → List A → Bool
has_none [] = true
has_none (x ∷ s) = false

module _ {K : Type 0} (cmp : K → K → Ordering) where
  -- What an operation makes of two lists of items.
  abbrev pub combined : SetOp → List K → List K → List K
  combined Difference s t = difference cmp s t
  combined SymmetricDifference s t = symmetric_difference cmp s t
  combined Intersection s t = intersection cmp s t
  combined Union s t = union cmp s t

-- The reply to a command that is refused: an insertion hands back the item that it was to put in.
abbrev pub item_refusal : {K V : Type 0} → SetCommand K → TryReserveError → Reply K V
item_refusal (AddItem k) e = ItemGivenBack k e
item_refusal (ReplaceItem k) e = ItemGivenBack k e
item_refusal c e = Refused e

module _ {K V : Type 0} (cmp : K → K → Ordering) where
  -- The table of commands on sets, where they are answered: the items of the named set, those of the other, and the reply.
  abbrev pub answer_on_sets : SetCommand K → List K → List K → SetOutcome K V
  answer_on_sets (AddItem k) m o = record { m = with_item cmp m k; o = o; reply = Flag (is_none (item_at cmp m k)) }
  answer_on_sets (ReplaceItem k) m o = record { m = with_replaced cmp m k; o = o; reply = Key (item_at cmp m k) }
  answer_on_sets (TakeItem k) m o = record { m = without cmp m k; o = o; reply = Key (item_at cmp m k) }
  answer_on_sets (RemoveItem k) m o = record { m = without cmp m k; o = o; reply = Flag (is_some (item_at cmp m k)) }
  answer_on_sets (ContainsItem k) m o = record { m = m; o = o; reply = Flag (is_some (item_at cmp m k)) }
  answer_on_sets (GetItem k) m o = record { m = m; o = o; reply = Key (item_at cmp m k) }
  answer_on_sets SetLen m o = record { m = m; o = o; reply = Len (length m) }
  answer_on_sets SetClear m o = record { m = []; o = o; reply = Done }
  answer_on_sets SetAppend m o = record { m = joined_items cmp m o; o = []; reply = Done }
  answer_on_sets (SetSplitOff k) m o = record { m = smaller cmp m k; o = not_smaller cmp m k; reply = Done }
  answer_on_sets SetClone m o = record { m = m; o = m; reply = Done }
  answer_on_sets (SetExtend more) m o = record { m = extended_items cmp m more; o = o; reply = Done }
  answer_on_sets (SetWalk lo hi ends) m o = record { m = m; o = o; reply = if is_range cmp lo hi then Keys (walked (items_within cmp lo hi m) ends) else BadRange }
  answer_on_sets (ListItems op) m o = record { m = m; o = o; reply = Keys (map Some (combined cmp op m o)) }
  answer_on_sets (Keep op) m o = record { m = combined cmp op m o; o = o; reply = Done }
  answer_on_sets IsDisjoint m o = record { m = m; o = o; reply = Flag (has_none (intersection cmp m o)) }
  answer_on_sets IsSubset m o = record { m = m; o = o; reply = Flag (has_none (difference cmp m o)) }
  answer_on_sets IsSuperset m o = record { m = m; o = o; reply = Flag (has_none (difference cmp o m)) }
  answer_on_sets SetCmp m o = record { m = m; o = o; reply = Order (slice_cmp cmp m o) }

module _ {K : Type 0} (cmp : K → K → Ordering) where
  -- Whether a command may be refused when a part of it is done, what it has then made of the items, and by which error: an extension
  -- at a new item, as an insertion of it there. The items before it stay.
  abbrev pub MayStopOnSets : SetCommand K → List K → List K → TryReserveError → Type 0
  MayStopOnSets (SetExtend more) m m' e = AreExtendedUpTo cmp m more m' e
  MayStopOnSets c m m' e = ⊥

  -- Whether a command is always refused: an insertion of a new item into a set of the greatest length, an append where neither set is
  -- empty and the lengths add past it, and an extension that would make the set longer.
  abbrev pub MustRefuseOnSets : SetCommand K → List K → List K → Type 0
  MustRefuseOnSets (AddItem k) m o = (item_at cmp m k ≡ None) × (length m ≡ 2 ^ 64 - 1)
  MustRefuseOnSets (ReplaceItem k) m o = (item_at cmp m k ≡ None) × (length m ≡ 2 ^ 64 - 1)
  MustRefuseOnSets SetAppend m o = (0 < length m) × (0 < length o) × (2 ^ 64 - 1 < length m + length o)
  MustRefuseOnSets (SetExtend more) m o = 2 ^ 64 - 1 < length (extended_items cmp m more)
  MustRefuseOnSets c m o = ⊥

module _ {K : Type 0} (cmp : K → K → Ordering) (may_refuse : K → TryReserveError → Type 0) where
  -- Whether a command may be refused and change nothing, and by which error, given by which one a copy of an item may be: an insertion
  -- of a new item, where the set is empty or has enough items to fill a leaf, a copy of the item that was found, or the room for copies,
  -- an append where neither set is empty, a split and a copy of a set that is not empty, and an operation on both sets that gives an item.
  abbrev pub MayRefuseOnSets : SetCommand K → List K → List K → TryReserveError → Type 0
  MayRefuseOnSets (AddItem k) m o e = (item_at cmp m k ≡ None) × MayGrowRefuse (length m) e
  MayRefuseOnSets (ReplaceItem k) m o e = (item_at cmp m k ≡ None) × MayGrowRefuse (length m) e
  MayRefuseOnSets (GetItem k) m o e = MayRefuseFound may_refuse (item_at cmp m k) e
  MayRefuseOnSets SetAppend m o e = MayAppendRefuse (length m) (length o) e
  MayRefuseOnSets (SetSplitOff k) m o e = (e ≡ AllocError) × (0 < length m)
  MayRefuseOnSets SetClone m o e = MayRefuseCopies may_refuse m e
  MayRefuseOnSets (SetWalk lo hi ends) m o e = IsTrue (is_range cmp lo hi) × MayRefuseCopies (MayRefuseFound may_refuse) (walked (items_within cmp lo hi m) ends) e
  MayRefuseOnSets (ListItems op) m o e = MayRefuseCopies may_refuse (combined cmp op m o) e
  MayRefuseOnSets (Keep op) m o e = MayCopyRefuse may_refuse (combined cmp op m o) e
  MayRefuseOnSets c m o e = ⊥

module _ {K V Z : Type 0} (cmp : K → K → Ordering) (may_refuse : K → TryReserveError → Type 0) where
  -- A command on the named set m and the other set o is answered by the table, or it is refused and changes nothing, or it is refused
  -- when a part of it is done.
  pub data StepOnSets (c : SetCommand K) (m o : Map K ⊤ Z) (r : Reply K V) (m' o' : Map K ⊤ Z) : Type 0 where
    answered : (MustRefuseOnSets cmp c (items m) (items o) → ⊥) → (let out = answer_on_sets {V = V} cmp c (items m) (items o) in (r ≡ out.reply) × (items m' ≡ out.m) × (items o' ≡ out.o)) → StepOnSets c m o r m' o'
    refused : (e : TryReserveError) → MayRefuseOnSets cmp may_refuse c (items m) (items o) e → (r ≡ item_refusal c e) × (m' ≡ m) × (o' ≡ o) → StepOnSets c m o r m' o'
    stopped : (e : TryReserveError) → MayStopOnSets cmp c (items m) (items m') e → (r ≡ Refused e) × (o' ≡ o) → StepOnSets c m o r m' o'
