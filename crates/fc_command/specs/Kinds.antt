-- What a command is once its side is told apart.
use Rattle.fc_lines.specs.declared.command.Side.TheVariants.{First}
use Rattle.fc_lines.specs.declared.command.Command.{Command}
use Rattle.fc_lines.specs.declared.command.Command.TheVariants.{Insert, Get, GetKeyValue, ContainsKey, Remove, Set, Entry, RemoveEntry, Len, Clear, Walk, Write, Append, SplitOff, TryClone, Extend, InsertBoth}
use Rattle.fc_lines.specs.declared.command.Command.TheVariants.{AddItem, ReplaceItem, TakeItem, RemoveItem, ContainsItem, GetItem, SetLen, SetClear, SetAppend, SetSplitOff, SetClone, SetExtend, SetWalk, List as ListItems, Keep, IsDisjoint, IsSubset, IsSuperset, SetCmp}
use Rattle.fc_command.specs.declared.command.kinds.Kind.{Kind}
use Rattle.fc_command.specs.declared.command.kinds.Kind.TheVariants.{OnMaps, OnSets}
use Rattle.fc_command.specs.declared.command.kinds.MapCommand.TheVariants as Maps
use Rattle.fc_command.specs.declared.command.kinds.SetCommand.TheVariants as Sets

-- A side, and what is asked of the map or the set that it names.
abbrev pub kind_of : {K V : Type 0} → Command K V → Kind K V
kind_of (Insert side k v) = OnMaps side (Maps.Insert k v)
kind_of (Get side k) = OnMaps side (Maps.Get k)
kind_of (GetKeyValue side k) = OnMaps side (Maps.GetKeyValue k)
kind_of (ContainsKey side k) = OnMaps side (Maps.ContainsKey k)
kind_of (Remove side k) = OnMaps side (Maps.Remove k)
kind_of (Set side k v) = OnMaps side (Maps.Set k v)
kind_of (Entry side k v w) = OnMaps side (Maps.Entry k v w)
kind_of (RemoveEntry side k) = OnMaps side (Maps.RemoveEntry k)
kind_of (Len side) = OnMaps side Maps.Len
kind_of (Clear side) = OnMaps side Maps.Clear
kind_of (Walk side lo hi ends) = OnMaps side (Maps.Walk lo hi ends)
kind_of (Write side lo hi writes) = OnMaps side (Maps.Write lo hi writes)
kind_of (Append side) = OnMaps side Maps.Append
kind_of (SplitOff side k) = OnMaps side (Maps.SplitOff k)
kind_of (TryClone side) = OnMaps side Maps.TryClone
kind_of (Extend side pairs) = OnMaps side (Maps.Extend pairs)
kind_of (InsertBoth k v l w) = OnMaps First (Maps.InsertBoth k v l w)
kind_of (AddItem side k) = OnSets side (Sets.AddItem k)
kind_of (ReplaceItem side k) = OnSets side (Sets.ReplaceItem k)
kind_of (TakeItem side k) = OnSets side (Sets.TakeItem k)
kind_of (RemoveItem side k) = OnSets side (Sets.RemoveItem k)
kind_of (ContainsItem side k) = OnSets side (Sets.ContainsItem k)
kind_of (GetItem side k) = OnSets side (Sets.GetItem k)
kind_of (SetLen side) = OnSets side Sets.SetLen
kind_of (SetClear side) = OnSets side Sets.SetClear
kind_of (SetAppend side) = OnSets side Sets.SetAppend
kind_of (SetSplitOff side k) = OnSets side (Sets.SetSplitOff k)
kind_of (SetClone side) = OnSets side Sets.SetClone
kind_of (SetExtend side items) = OnSets side (Sets.SetExtend items)
kind_of (SetWalk side lo hi ends) = OnSets side (Sets.SetWalk lo hi ends)
kind_of (ListItems op side) = OnSets side (Sets.List op)
kind_of (Keep op side) = OnSets side (Sets.Keep op)
kind_of (IsDisjoint side) = OnSets side Sets.IsDisjoint
kind_of (IsSubset side) = OnSets side Sets.IsSubset
kind_of (IsSuperset side) = OnSets side Sets.IsSuperset
kind_of (SetCmp side) = OnSets side Sets.SetCmp
