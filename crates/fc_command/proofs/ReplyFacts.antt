-- Which commands are answered by a list.
use Rattle.std.proofs.Common.{ℕ, Bool, true, false, if◌then◌else◌}
use Rattle.std.specs.Prelude.{⊤}
use Rattle.std.specs.declared.cmp.Ordering.{Ordering}
use Rattle.fc_base.specs.declared.try_reserve_error.TryReserveError.{TryReserveError}
use Rattle.fc_base.specs.Ranges.{is_range}
use Rattle.fc_map.specs.Entries.{Map, entries}
use Rattle.fc_set.specs.Items.{items}
use Rattle.fc_command.specs.declared.command.world.World.{World}
use Rattle.fc_lines.specs.declared.command.Command.{Command}
use Rattle.fc_lines.specs.declared.command.Command.TheVariants.{Insert, Get, GetKeyValue, ContainsKey, Remove, Set, Entry, RemoveEntry, Len as CountPairs}
use Rattle.fc_lines.specs.declared.command.Command.TheVariants.{Clear, Walk, Write, Append, SplitOff, TryClone, Extend, InsertBoth}
use Rattle.fc_lines.specs.declared.command.Command.TheVariants.{AddItem, ReplaceItem, TakeItem, RemoveItem, ContainsItem, GetItem, SetLen, SetClear}
use Rattle.fc_lines.specs.declared.command.Command.TheVariants.{SetAppend, SetSplitOff, SetClone, SetExtend, SetWalk, List as ListItems, Keep, IsDisjoint}
use Rattle.fc_lines.specs.declared.command.Command.TheVariants.{IsSubset, IsSuperset, SetCmp}
use Rattle.fc_command.specs.declared.command.kinds.MapCommand.{MapCommand}
use Rattle.fc_command.specs.declared.command.kinds.SetCommand.{SetCommand}
use Rattle.fc_lines.specs.declared.command.Reply.{Reply}
use Rattle.fc_lines.specs.declared.command.Reply.TheVariants.{Len, BadRange}
use Rattle.fc_lines.specs.Room.{AsksForList, IsNoList}
use Rattle.fc_command.specs.Step.{refusal, answer, StepOn, answered, refused, stopped, Step}
use Rattle.fc_command.specs.SetStep.{item_refusal, answer_on_sets, StepOnSets, answered as answered_on_sets, refused as refused_on_sets}
use Rattle.fc_command.specs.SetStep.{stopped as stopped_on_sets}

either : (K V : Type 0) (b : Bool) (n : ℕ) → IsNoList {K = K} {V = V} (if b then Len n else BadRange)
either K V true n = tt
either K V false n = tt

module _ {K V Z : Type 0} (cmp : K → K → Ordering) (refuses_key : K → TryReserveError → Type 0) (refuses_value : V → TryReserveError → Type 0) where
  on_maps : (c : MapCommand K V) (m o : Map K V Z) (r : Reply K V) (m' o' : Map K V Z) → StepOn cmp refuses_key refuses_value c m o r m' o'
      → ((e : TryReserveError) → IsNoList (refusal c e)) → IsNoList (answer cmp c (entries m) (entries o)).reply → IsNoList r
  on_maps c m o r m' o' (answered must h) refuses answers = rw h.0 answers
  on_maps c m o r m' o' (refused e may h) refuses answers = rw h.0 (refuses e)
  on_maps c m o r m' o' (stopped e may h) refuses answers = rw h.0 tt

  on_sets : (c : SetCommand K) (m o : Map K ⊤ Z) (r : Reply K V) (m' o' : Map K ⊤ Z) → StepOnSets cmp refuses_key c m o r m' o'
      → ((e : TryReserveError) → IsNoList (item_refusal {V = V} c e)) → IsNoList (answer_on_sets {V = V} cmp c (items m) (items o)).reply → IsNoList r
  on_sets c m o r m' o' (answered_on_sets must h) refuses answers = rw h.0 answers
  on_sets c m o r m' o' (refused_on_sets e may h) refuses answers = rw h.0 (refuses e)
  on_sets c m o r m' o' (stopped_on_sets e may h) refuses answers = rw h.0 tt

  -- a command whose reply is a list asks for one
  pub asks : (before : World K V Z) (c : Command K V) (r : Reply K V) (after : World K V Z) → Step cmp refuses_key refuses_value before c r after
      → (IsNoList r → ⊥) → AsksForList c
  asks before (Insert side k v) r after s list = absurd (list (on_maps _ _ _ r _ _ s.0 (λ e. tt) tt))
  asks before (Get side k) r after s list = absurd (list (on_maps _ _ _ r _ _ s.0 (λ e. tt) tt))
  asks before (GetKeyValue side k) r after s list = absurd (list (on_maps _ _ _ r _ _ s.0 (λ e. tt) tt))
  asks before (ContainsKey side k) r after s list = absurd (list (on_maps _ _ _ r _ _ s.0 (λ e. tt) tt))
  asks before (Remove side k) r after s list = absurd (list (on_maps _ _ _ r _ _ s.0 (λ e. tt) tt))
  asks before (Set side k v) r after s list = absurd (list (on_maps _ _ _ r _ _ s.0 (λ e. tt) tt))
  asks before (Entry side k v w) r after s list = absurd (list (on_maps _ _ _ r _ _ s.0 (λ e. tt) tt))
  asks before (RemoveEntry side k) r after s list = absurd (list (on_maps _ _ _ r _ _ s.0 (λ e. tt) tt))
  asks before (CountPairs side) r after s list = absurd (list (on_maps _ _ _ r _ _ s.0 (λ e. tt) tt))
  asks before (Clear side) r after s list = absurd (list (on_maps _ _ _ r _ _ s.0 (λ e. tt) tt))
  asks before (Walk side lo hi ends) r after s list = tt
  asks before (Write side lo hi writes) r after s list = absurd (list (on_maps _ _ _ r _ _ s.0 (λ e. tt) (either K V (is_range cmp lo hi) _)))
  asks before (Append side) r after s list = absurd (list (on_maps _ _ _ r _ _ s.0 (λ e. tt) tt))
  asks before (SplitOff side k) r after s list = absurd (list (on_maps _ _ _ r _ _ s.0 (λ e. tt) tt))
  asks before (TryClone side) r after s list = absurd (list (on_maps _ _ _ r _ _ s.0 (λ e. tt) tt))
  asks before (Extend side pairs) r after s list = absurd (list (on_maps _ _ _ r _ _ s.0 (λ e. tt) tt))
  asks before (InsertBoth k v l w) r after s list = absurd (list (on_maps _ _ _ r _ _ s.0 (λ e. tt) tt))
  asks before (AddItem side k) r after s list = absurd (list (on_sets _ _ _ r _ _ s.0 (λ e. tt) tt))
  asks before (ReplaceItem side k) r after s list = absurd (list (on_sets _ _ _ r _ _ s.0 (λ e. tt) tt))
  asks before (TakeItem side k) r after s list = absurd (list (on_sets _ _ _ r _ _ s.0 (λ e. tt) tt))
  asks before (RemoveItem side k) r after s list = absurd (list (on_sets _ _ _ r _ _ s.0 (λ e. tt) tt))
  asks before (ContainsItem side k) r after s list = absurd (list (on_sets _ _ _ r _ _ s.0 (λ e. tt) tt))
  asks before (GetItem side k) r after s list = absurd (list (on_sets _ _ _ r _ _ s.0 (λ e. tt) tt))
  asks before (SetLen side) r after s list = absurd (list (on_sets _ _ _ r _ _ s.0 (λ e. tt) tt))
  asks before (SetClear side) r after s list = absurd (list (on_sets _ _ _ r _ _ s.0 (λ e. tt) tt))
  asks before (SetAppend side) r after s list = absurd (list (on_sets _ _ _ r _ _ s.0 (λ e. tt) tt))
  asks before (SetSplitOff side k) r after s list = absurd (list (on_sets _ _ _ r _ _ s.0 (λ e. tt) tt))
  asks before (SetClone side) r after s list = absurd (list (on_sets _ _ _ r _ _ s.0 (λ e. tt) tt))
  asks before (SetExtend side items) r after s list = absurd (list (on_sets _ _ _ r _ _ s.0 (λ e. tt) tt))
  asks before (SetWalk side lo hi ends) r after s list = tt
  asks before (ListItems op side) r after s list = tt
  asks before (Keep op side) r after s list = absurd (list (on_sets _ _ _ r _ _ s.0 (λ e. tt) tt))
  asks before (IsDisjoint side) r after s list = absurd (list (on_sets _ _ _ r _ _ s.0 (λ e. tt) tt))
  asks before (IsSubset side) r after s list = absurd (list (on_sets _ _ _ r _ _ s.0 (λ e. tt) tt))
  asks before (IsSuperset side) r after s list = absurd (list (on_sets _ _ _ r _ _ s.0 (λ e. tt) tt))
  asks before (SetCmp side) r after s list = absurd (list (on_sets _ _ _ r _ _ s.0 (λ e. tt) tt))
