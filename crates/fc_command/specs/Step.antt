-- What a command does to a world, and what it answers. `SetStep` has the table of commands on sets.
use Rattle.std.specs.Prelude.{◌≡◌, ◌+◌, ◌-◌, ◌^◌, ◌<◌, min, ◌⊎◌, ⊤, List, [], ◌∷◌, length, None, is_some, IsTrue, if◌then◌else◌}
use Rattle.std.specs.declared.cmp.Ordering.{Ordering}
use Rattle.fc_base.specs.declared.try_reserve_error.TryReserveError.{TryReserveError}
use Rattle.fc_base.specs.declared.try_reserve_error.TryReserveError.TheVariants.{AllocError}
use Rattle.fc_base.specs.Copies.{MayRefuseCopies, MayRefusePair}
use Rattle.fc_base.specs.Extended.{extended, IsExtendedUpTo}
use Rattle.fc_base.specs.Growth.{MayGrowRefuse, MayAppendRefuse}
use Rattle.fc_base.specs.Halves.{not_below}
use Rattle.fc_base.specs.Joined.{joined}
use Rattle.fc_base.specs.OneKey.{put, cut}
use Rattle.fc_base.specs.Parts.{below, at, value_at}
use Rattle.fc_base.specs.Ranges.{is_range, within}
use Rattle.fc_map.specs.Entries.{Map, entries}
use Rattle.fc_set.specs.Items.{items}
use Rattle.fc_command.specs.declared.command.world.World.{World}
use Rattle.fc_lines.specs.declared.command.Side.{Side}
use Rattle.fc_lines.specs.declared.command.Side.TheVariants.{First, Second}
use Rattle.fc_lines.specs.declared.command.Command.{Command}
use Rattle.fc_command.specs.declared.command.kinds.MapCommand.{MapCommand}
use Rattle.fc_command.specs.declared.command.kinds.MapCommand.TheVariants.{Insert, Get, GetKeyValue, ContainsKey, Remove, Set, Entry, RemoveEntry, Len as CountPairs, Clear, Walk, Write, Append, SplitOff, TryClone, Extend, InsertBoth}
use Rattle.fc_lines.specs.declared.command.Reply.{Reply}
use Rattle.fc_lines.specs.declared.command.Reply.TheVariants.{Done, Flag, Value, Pair, Len, Pairs, BadRange, Refused, GivenBack, Both, BothGivenBack}
use Rattle.fc_command.specs.declared.command.kinds.Kind.{Kind}
use Rattle.fc_command.specs.declared.command.kinds.Kind.TheVariants.{OnMaps, OnSets}
use Rattle.fc_command.specs.Kinds.{kind_of}
use Rattle.fc_command.specs.SetStep.{StepOnSets}
use Rattle.fc_command.specs.Walks.{walked, MayRefuseFound}
use Rattle.fc_command.specs.Writing.{rewritten}

-- A new world has no pairs and no items.
abbrev pub IsNew : {K V Z : Type 0} → World K V Z → Type 0
IsNew w = (entries w.a ≡ []) × (entries w.b ≡ []) × (items w.s ≡ []) × (items w.t ≡ [])

-- The map that a side names.
abbrev pub named : {K V Z : Type 0} → Side → World K V Z → Map K V Z
named First w = w.a
named Second w = w.b

-- The other map.
abbrev pub other : {K V Z : Type 0} → Side → World K V Z → Map K V Z
other First w = w.b
other Second w = w.a

-- The set that a side names.
abbrev pub named_set : {K V Z : Type 0} → Side → World K V Z → Map K ⊤ Z
named_set First w = w.s
named_set Second w = w.t

-- The other set.
abbrev pub other_set : {K V Z : Type 0} → Side → World K V Z → Map K ⊤ Z
other_set First w = w.t
other_set Second w = w.s

-- What a command makes of the list m of the named map and of the list o of the other, and its reply.
pub record Outcome (K V : Type 0) : Type 0 where
  pub m : List (K × V)
  pub o : List (K × V)
  pub reply : Reply K V

-- The reply to a command that is refused: an insertion hands back each key and value that it was to put in.
abbrev pub refusal : {K V : Type 0} → MapCommand K V → TryReserveError → Reply K V
refusal (Insert k v) e = GivenBack k v e
refusal (Entry k v w) e = GivenBack k w e
refusal (InsertBoth k v l w) e = BothGivenBack k v l w e
refusal c e = Refused e

module _ {K V : Type 0} (cmp : K → K → Ordering) where
  -- The table of commands on maps, where they are answered: the list of the named map, that of the other, and the reply.
  abbrev pub answer : MapCommand K V → List (K × V) → List (K × V) → Outcome K V
  answer (Insert k v) m o = record { m = put cmp m k v; o = o; reply = Value (value_at cmp m k) }
  answer (Get k) m o = record { m = m; o = o; reply = Value (value_at cmp m k) }
  answer (GetKeyValue k) m o = record { m = m; o = o; reply = Pair (at cmp m k) }
  answer (ContainsKey k) m o = record { m = m; o = o; reply = Flag (is_some (at cmp m k)) }
  answer (Remove k) m o = record { m = cut cmp m k; o = o; reply = Value (value_at cmp m k) }
  answer (Set k v) m o = record { m = if is_some (at cmp m k) then put cmp m k v else m; o = o; reply = Value (value_at cmp m k) }
  answer (Entry k v w) m o = record { m = put cmp m k (if is_some (at cmp m k) then v else w); o = o; reply = Flag (is_some (at cmp m k)) }
  answer (RemoveEntry k) m o = record { m = cut cmp m k; o = o; reply = Pair (at cmp m k) }
  answer CountPairs m o = record { m = m; o = o; reply = Len (length m) }
  answer Clear m o = record { m = []; o = o; reply = Done }
  answer (Walk lo hi ends) m o = record { m = m; o = o; reply = if is_range cmp lo hi then Pairs (walked (within cmp lo hi m) ends) else BadRange }
  answer (Write lo hi writes) m o = record {
    m = if is_range cmp lo hi then rewritten cmp lo hi m writes else m;
    o = o;
    reply = if is_range cmp lo hi then Len (min (length writes) (length (within cmp lo hi m))) else BadRange;
  }
  answer Append m o = record { m = joined cmp m o; o = []; reply = Done }
  answer (SplitOff k) m o = record { m = below cmp m k; o = not_below cmp m k; reply = Done }
  answer TryClone m o = record { m = m; o = m; reply = Done }
  answer (Extend pairs) m o = record { m = extended cmp m pairs; o = o; reply = Done }
  answer (InsertBoth k v l w) m o = record { m = put cmp m k v; o = put cmp o l w; reply = Both (value_at cmp m k) (value_at cmp o l) }

  -- Whether a command may be refused when a part of it is done, what it has then made of the list, and by which error: an extension
  -- at a pair with a new key, as an insertion of it there. The pairs before it stay.
  abbrev pub MayStop : MapCommand K V → List (K × V) → List (K × V) → TryReserveError → Type 0
  MayStop (Extend pairs) m m' e = IsExtendedUpTo cmp m pairs m' e
  MayStop c m m' e = ⊥

  -- Whether a command is always refused: an insertion of a new key into a map of the greatest length, alone or as one of two, an append
  -- where neither map is empty and the lengths add past it, and an extension that would make the map longer.
  abbrev pub MustRefuse : MapCommand K V → List (K × V) → List (K × V) → Type 0
  MustRefuse (Insert k v) m o = (at cmp m k ≡ None) × (length m ≡ 2 ^ 64 - 1)
  MustRefuse (Entry k v w) m o = (at cmp m k ≡ None) × (length m ≡ 2 ^ 64 - 1)
  MustRefuse Append m o = (0 < length m) × (0 < length o) × (2 ^ 64 - 1 < length m + length o)
  MustRefuse (Extend pairs) m o = 2 ^ 64 - 1 < length (extended cmp m pairs)
  MustRefuse (InsertBoth k v l w) m o = ((at cmp m k ≡ None) × (length m ≡ 2 ^ 64 - 1)) ⊎ ((at cmp o l ≡ None) × (length o ≡ 2 ^ 64 - 1))
  MustRefuse c m o = ⊥

module _ {K V : Type 0} (cmp : K → K → Ordering) (refuses_key : K → TryReserveError → Type 0) (refuses_value : V → TryReserveError → Type 0) where
  -- Whether a command may be refused and change nothing, and by which error, given by which one a copy of a key or of a value may be: an
  -- insertion at a new key, where the map is empty or has enough pairs to fill a leaf, two of which one is such, a copy of what was found,
  -- or the room for copies, an append where neither map is empty, and a split and a copy of a map that is not empty.
  abbrev pub MayRefuseCommand : MapCommand K V → List (K × V) → List (K × V) → TryReserveError → Type 0
  MayRefuseCommand (Insert k v) m o e = (at cmp m k ≡ None) × MayGrowRefuse (length m) e
  MayRefuseCommand (Get k) m o e = MayRefuseFound refuses_value (value_at cmp m k) e
  MayRefuseCommand (GetKeyValue k) m o e = MayRefuseFound (MayRefusePair refuses_key refuses_value) (at cmp m k) e
  MayRefuseCommand (Entry k v w) m o e = (at cmp m k ≡ None) × MayGrowRefuse (length m) e
  MayRefuseCommand (Walk lo hi ends) m o e = IsTrue (is_range cmp lo hi) × MayRefuseCopies (MayRefuseFound (MayRefusePair refuses_key refuses_value)) (walked (within cmp lo hi m) ends) e
  MayRefuseCommand Append m o e = MayAppendRefuse (length m) (length o) e
  MayRefuseCommand (SplitOff k) m o e = (e ≡ AllocError) × (0 < length m)
  MayRefuseCommand TryClone m o e = MayRefuseCopies (MayRefusePair refuses_key refuses_value) m e
  MayRefuseCommand (InsertBoth k v l w) m o e = ((at cmp m k ≡ None) × MayGrowRefuse (length m) e) ⊎ ((at cmp o l ≡ None) × MayGrowRefuse (length o) e)
  MayRefuseCommand c m o e = ⊥

module _ {K V Z : Type 0} (cmp : K → K → Ordering) (refuses_key : K → TryReserveError → Type 0) (refuses_value : V → TryReserveError → Type 0) where
  -- A command on the named map m and the other map o is answered by the table, or it is refused and changes nothing, or it is refused
  -- when a part of it is done.
  pub data StepOn (c : MapCommand K V) (m o : Map K V Z) (r : Reply K V) (m' o' : Map K V Z) : Type 0 where
    answered : (MustRefuse cmp c (entries m) (entries o) → ⊥) → (let out = answer cmp c (entries m) (entries o) in (r ≡ out.reply) × (entries m' ≡ out.m) × (entries o' ≡ out.o)) → StepOn c m o r m' o'
    refused : (e : TryReserveError) → MayRefuseCommand cmp refuses_key refuses_value c (entries m) (entries o) e → (r ≡ refusal c e) × (m' ≡ m) × (o' ≡ o) → StepOn c m o r m' o'
    stopped : (e : TryReserveError) → MayStop cmp c (entries m) (entries m') e → (r ≡ Refused e) × (o' ≡ o) → StepOn c m o r m' o'

  -- The same of what a side names in a world, and of the other one. The sets or the maps are as before.
  abbrev pub StepKind : World K V Z → Kind K V → Reply K V → World K V Z → Type 0
  StepKind w (OnMaps side c) r w' = StepOn c (named side w) (other side w) r (named side w') (other side w') × (w'.s ≡ w.s) × (w'.t ≡ w.t)
  StepKind w (OnSets side c) r w' = StepOnSets cmp refuses_key c (named_set side w) (other_set side w) r (named_set side w') (other_set side w')
      × (w'.a ≡ w.a) × (w'.b ≡ w.b)

  -- A command may lead from one world to another with this reply.
  abbrev pub Step : World K V Z → Command K V → Reply K V → World K V Z → Type 0
  Step w c r w' = StepKind w (kind_of c) r w'

  -- The commands may lead from one world to another, with a reply to each.
  abbrev pub Runs : World K V Z → List (Command K V) → List (Reply K V) → World K V Z → Type 0
  Runs w [] [] w' = w' ≡ w
  Runs w (c ∷ cs) (r ∷ rs) w' = (mid : World K V Z) × Step w c r mid × Runs mid cs rs w'
  Runs w [] (r ∷ rs) w' = ⊥
  Runs w (c ∷ cs) [] w' = ⊥
