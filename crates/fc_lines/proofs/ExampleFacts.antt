-- The definitions compute: lines to their commands, lines that are not commands to none, and replies to their text.
use Rattle.std.proofs.Common.{◌≡◌, ℕ, List, [], ◌∷◌, refl, map, Some, None, true, false}
use Rattle.std.specs.Prelude.{codes}
use Rattle.std.specs.Fmt.{digits}
use Rattle.std.specs.List.{flat_map}
use Rattle.fc_base.specs.declared.try_reserve_error.TryReserveError.TheVariants.{AllocError, CapacityOverflow}
use Rattle.std.specs.declared.ops.Bound.TheVariants.{Included, Excluded, Unbounded}
use Rattle.fc_lines.specs.declared.command.Side.TheVariants.{First, Second}
use Rattle.fc_lines.specs.declared.command.End.TheVariants.{Front, Back}
use Rattle.fc_lines.specs.declared.command.Command.TheVariants.{Insert, Get, GetKeyValue, ContainsKey, Remove, Set, Entry, RemoveEntry, Len as CountPairs}
use Rattle.fc_lines.specs.declared.command.Command.TheVariants.{Clear, Walk, Write, Append, SplitOff, TryClone, Extend, InsertBoth}
use Rattle.fc_lines.specs.declared.command.Command.TheVariants.{AddItem, ReplaceItem, TakeItem, RemoveItem, ContainsItem, GetItem, SetLen, SetClear}
use Rattle.fc_lines.specs.declared.command.Command.TheVariants.{SetAppend, SetSplitOff, SetClone, SetExtend, SetWalk, List as ListItems, Keep, IsDisjoint}
use Rattle.fc_lines.specs.declared.command.Command.TheVariants.{IsSubset, IsSuperset, SetCmp}
use Rattle.fc_lines.specs.declared.command.Reply.TheVariants.{Done, Flag, Value, Pair, Len, Pairs, BadRange, Refused, GivenBack, ItemGivenBack, Both}
use Rattle.fc_lines.specs.declared.command.Reply.TheVariants.{BothGivenBack, Key, Keys, Order}
use Rattle.fc_lines.specs.Lines.{lines_of}
use Rattle.fc_lines.specs.Grammar.{command_of, command_of_words, on_one_of, on_map_of, plain_of, keyed_of, valued_of, entry_of, both_of, steps_of, walk_of}
use Rattle.fc_lines.specs.Grammar.{write_of, extend_of, number_at, bound_at, on_set_of, plain_on_set_of, with_item_of, walk_items_of, extend_items_of}
use Rattle.fc_lines.specs.Grammar.{keep_of, set_at}
use Rattle.fc_lines.specs.Texts.{text_of}
use Rattle.std.specs.declared.cmp.Ordering.TheVariants.{Less, Equal, Greater}
use Rattle.fc_lines.specs.declared.command.SetOp.TheVariants.{Difference, SymmetricDifference, Intersection, Union}

abbrev six : List ℕ
six = codes "insert a 37 1\ninsert a 037 2\nget a 37\nlen a\nremove a 37\nget b 1\n"

six_commands : map command_of (lines_of six) ≡ Some (Insert First 37 1) ∷ Some (Insert First 37 2) ∷ Some (Get First 37)
    ∷ Some (CountPairs First)
    ∷ Some (Remove First 37) ∷ Some (Get Second 1) ∷ []
unfolding command_of command_of_words on_one_of on_map_of plain_of keyed_of valued_of entry_of number_at
six_commands = refl

-- The longest number, and one with leading zeros.
numbers_read : map command_of (codes "get a 18446744073709551615" ∷ codes "get a 00000000000000000001" ∷ []) ≡ Some (Get First 18446744073709551615)
    ∷ Some (Get First 1) ∷ []
unfolding command_of command_of_words on_one_of on_map_of plain_of keyed_of valued_of entry_of number_at
numbers_read = refl

-- An empty line, spaces that are two or at an end, a carriage return, words that are not numbers, a word too few or too many,
-- another map, and another letter case.
bad_lines : map command_of (codes "" ∷ codes "get  a 1" ∷ codes " get a 1" ∷ codes "get a 1 " ∷ codes "get a 1\r" ∷ codes "get a -1"
    ∷ codes "get a 000000000000000000001" ∷ codes "get a 18446744073709551616" ∷ codes "insert a 1" ∷ codes "len a 1" ∷ codes "get s 1" ∷ codes "Insert a 1 1"
    ∷ codes "bogus" ∷ codes "pair a" ∷ codes "has a 1 2" ∷ codes "clear" ∷ codes "set a 1" ∷ codes "entry a 1 2" ∷ codes "evict a 1 2" ∷ [])
    ≡ None ∷ None ∷ None ∷ None ∷ None ∷ None ∷ None ∷ None ∷ None ∷ None ∷ None ∷ None ∷ None ∷ None ∷ None ∷ None ∷ None ∷ None ∷ None ∷ []
unfolding command_of command_of_words on_one_of on_map_of on_set_of plain_on_set_of with_item_of walk_items_of steps_of extend_items_of plain_of
    keyed_of valued_of entry_of number_at
bad_lines = refl

-- The other commands on one key or one map.
more_commands : map command_of (codes "pair a 1" ∷ codes "has b 1" ∷ codes "clear b" ∷ codes "set a 1 2" ∷ codes "entry b 1 2 3" ∷ codes "evict a 1" ∷ [])
    ≡ Some (GetKeyValue First 1) ∷ Some (ContainsKey Second 1) ∷ Some (Clear Second) ∷ Some (Set First 1 2)
    ∷ Some (Entry Second 1 2 3)
    ∷ Some (RemoveEntry First 1) ∷ []
unfolding command_of command_of_words on_one_of on_map_of plain_of keyed_of valued_of entry_of number_at
more_commands = refl

-- Walks: bounds, the letters of ends, and writes.
walk_commands : map command_of (codes "walk a =4 =8 bffb" ∷ codes "walk b !5 !5 f" ∷ codes "walk a * =007 b" ∷ codes "write a =4 * f=9"
    ∷ codes "write b * * f=10 b=30" ∷ [])
    ≡ Some (Walk First (Included 4) (Included 8) (Back ∷ Front ∷ Front ∷ Back ∷ [])) ∷ Some (Walk Second (Excluded 5) (Excluded 5) (Front ∷ []))
    ∷ Some (Walk First Unbounded (Included 7) (Back ∷ []))
    ∷ Some (Write First (Included 4) Unbounded ((Front, 9) ∷ [])) ∷ Some (Write Second Unbounded Unbounded ((Front, 10) ∷ (Back, 30) ∷ [])) ∷ []
unfolding command_of command_of_words on_one_of on_map_of walk_of steps_of write_of bound_at
walk_commands = refl

-- Another letter, a space in a write, no ends, a bare number as a bound, a bound without its number, no writes, a write without its
-- number, another end, another map, a number that is too great, and words after the letters.
bad_walks : map command_of (codes "walk a * * fx" ∷ codes "write a * * f 1" ∷ codes "walk a * *" ∷ codes "walk a * * " ∷ codes "walk a 5 * f"
    ∷ codes "walk a = * f" ∷ codes "walk a =  * f" ∷ codes "walk a ** * f" ∷ codes "write a * *" ∷ codes "write a * * f=" ∷ codes "write a * * g=1"
    ∷ codes "write a * * f=1 " ∷ codes "walk c * * f" ∷ codes "walk a =18446744073709551616 * f" ∷ codes "walk a * * f b" ∷ [])
    ≡ None ∷ None ∷ None ∷ None ∷ None ∷ None ∷ None ∷ None ∷ None ∷ None ∷ None ∷ None ∷ None ∷ None ∷ None ∷ []
unfolding command_of command_of_words on_one_of on_map_of on_set_of plain_on_set_of with_item_of walk_items_of steps_of extend_items_of number_at
    walk_of write_of bound_at
bad_walks = refl

-- Commands on both maps, and of many pairs.
map_commands : map command_of (codes "append a" ∷ codes "split b 5" ∷ codes "copy a" ∷ codes "extend b 3 1" ∷ codes "extend a 3 1 5 2 8 3" ∷ [])
    ≡ Some (Append First) ∷ Some (SplitOff Second 5) ∷ Some (TryClone First) ∷ Some (Extend Second ((3, 1) ∷ []))
    ∷ Some (Extend First ((3, 1) ∷ (5, 2) ∷ (8, 3) ∷ [])) ∷ []
unfolding command_of command_of_words on_one_of on_map_of plain_of keyed_of valued_of entry_of extend_of number_at
map_commands = refl

-- A word too many or too few, no pairs, a key without its value, another map, two spaces, a space after, and a number that is too great.
bad_map_commands : map command_of (codes "append a b" ∷ codes "append" ∷ codes "split a" ∷ codes "split a 5 6" ∷ codes "copy" ∷ codes "copy a 1"
    ∷ codes "extend a" ∷ codes "extend a 3" ∷ codes "extend a 3 1 5" ∷ codes "extend c 3 1" ∷ codes "extend a  3 1" ∷ codes "extend a 3 1 "
    ∷ codes "extend a 3 18446744073709551616" ∷ [])
    ≡ None ∷ None ∷ None ∷ None ∷ None ∷ None ∷ None ∷ None ∷ None ∷ None ∷ None ∷ None ∷ None ∷ []
unfolding command_of command_of_words on_one_of on_map_of on_set_of plain_on_set_of with_item_of walk_items_of steps_of extend_items_of plain_of
    keyed_of valued_of entry_of extend_of number_at
bad_map_commands = refl

-- A pair for each map. A word too few or too many, a map's name, a word that is no number, two spaces, a space after, and a number that
-- is too great.
both_commands : map command_of (codes "both 1 2 5 9" ∷ codes "both 0 00 18446744073709551615 1" ∷ codes "both" ∷ codes "both 1 2 5" ∷ codes "both 1 2 5 9 0"
    ∷ codes "both a 1 2 5 9" ∷ codes "both 1 2 x 9" ∷ codes "both 1 2  5 9" ∷ codes "both 1 2 5 9 " ∷ codes "both 1 2 18446744073709551616 9" ∷ [])
    ≡ Some (InsertBoth 1 2 5 9) ∷ Some (InsertBoth 0 0 18446744073709551615 1) ∷ None ∷ None ∷ None ∷ None ∷ None ∷ None ∷ None
    ∷ None ∷ []
unfolding command_of command_of_words on_one_of on_map_of on_set_of plain_on_set_of with_item_of walk_items_of steps_of extend_items_of plain_of
    both_of keyed_of valued_of entry_of number_at
both_commands = refl

-- Lines of one set, of a set and an item, and of many items.
set_commands : map command_of (codes "add s 1" ∷ codes "replace t 02" ∷ codes "take s 3" ∷ codes "drop s 4" ∷ codes "in t 5" ∷ codes "find s 6"
    ∷ codes "len t" ∷ codes "clear s" ∷ codes "append s" ∷ codes "split t 7" ∷ codes "copy s" ∷ codes "extend s 3 1 3" ∷ codes "walk t =4 !8 bf" ∷ [])
    ≡ Some (AddItem First 1) ∷ Some (ReplaceItem Second 2) ∷ Some (TakeItem First 3) ∷ Some (RemoveItem First 4)
    ∷ Some (ContainsItem Second 5)
    ∷ Some (GetItem First 6) ∷ Some (SetLen Second) ∷ Some (SetClear First) ∷ Some (SetAppend First)
    ∷ Some (SetSplitOff Second 7) ∷ Some (SetClone First) ∷ Some (SetExtend First (3 ∷ 1 ∷ 3 ∷ []))
    ∷ Some (SetWalk Second (Included 4) (Excluded 8) (Back ∷ Front ∷ [])) ∷ []
unfolding command_of command_of_words on_one_of on_map_of walk_of steps_of extend_of plain_of keyed_of valued_of entry_of number_at bound_at on_set_of
    plain_on_set_of with_item_of walk_items_of extend_items_of
set_commands = refl

-- Lines of two sets.
operations_read : map command_of (codes "diff s" ∷ codes "sym t" ∷ codes "inter s" ∷ codes "union t" ∷ codes "keep diff s" ∷ codes "keep sym t"
    ∷ codes "keep inter s" ∷ codes "keep union t" ∷ codes "disjoint s" ∷ codes "subset t" ∷ codes "superset s" ∷ codes "cmp t" ∷ [])
    ≡ Some (ListItems Difference First) ∷ Some (ListItems SymmetricDifference Second) ∷ Some (ListItems Intersection First)
    ∷ Some (ListItems Union Second)
    ∷ Some (Keep Difference First) ∷ Some (Keep SymmetricDifference Second) ∷ Some (Keep Intersection First)
    ∷ Some (Keep Union Second)
    ∷ Some (IsDisjoint First) ∷ Some (IsSubset Second) ∷ Some (IsSuperset First) ∷ Some (SetCmp Second) ∷ []
unfolding command_of command_of_words on_one_of on_map_of plain_of keyed_of valued_of entry_of on_set_of plain_on_set_of with_item_of keep_of set_at
operations_read = refl

-- A map or a word of maps, a word too many or too few, another operation, no items, a number that is too great, and two spaces.
bad_set_commands : map command_of (codes "add a 1" ∷ codes "insert s 1" ∷ codes "get s 1" ∷ codes "diff a" ∷ codes "add s" ∷ codes "add s 1 2"
    ∷ codes "len s 1" ∷ codes "cmp s t" ∷ codes "cmp" ∷ codes "keep s" ∷ codes "keep diff" ∷ codes "keep diff a" ∷ codes "keep len s" ∷ codes "keep diff s 1"
    ∷ codes "extend s" ∷ codes "extend s 18446744073709551616" ∷ codes "extend s 1 " ∷ codes "walk s * *" ∷ codes "walk s * * fx" ∷ codes "write s * * f=1"
    ∷ codes "in  s 1" ∷ codes "Add s 1" ∷ [])
    ≡ None ∷ None ∷ None ∷ None ∷ None ∷ None ∷ None ∷ None ∷ None ∷ None ∷ None ∷ None ∷ None ∷ None ∷ None ∷ None ∷ None ∷ None ∷ None ∷ None ∷ None ∷ None
    ∷ []
unfolding command_of command_of_words on_one_of on_map_of walk_of steps_of write_of extend_of plain_of keyed_of valued_of entry_of number_at bound_at
    on_set_of plain_on_set_of with_item_of keep_of walk_items_of extend_items_of set_at
bad_set_commands = refl

-- The replies to the six lines, as text.
six_texts : flat_map text_of (Value None ∷ Value (Some 1) ∷ Value (Some 2) ∷ Len 1 ∷ Value (Some 2) ∷ Value None ∷ [])
    ≡ codes "none\nsome 1\nsome 2\n1\nsome 2\nnone\n"
unfolding text_of digits
six_texts = refl

more_texts : flat_map text_of (Pair None ∷ Pair (Some (1, 2)) ∷ Flag true ∷ Flag false ∷ Done ∷ Refused AllocError ∷ Refused CapacityOverflow ∷ [])
    ≡ codes "none\nsome 1 2\ntrue\nfalse\ndone\nrefused alloc\nrefused overflow\n"
unfolding text_of digits
more_texts = refl

both_texts : flat_map text_of (Both None (Some 7) ∷ Both (Some 1) (Some 2) ∷ BothGivenBack 1 2 5 9 AllocError ∷ BothGivenBack 1 2 5 9 CapacityOverflow ∷ [])
    ≡ codes "both - 7\nboth 1 2\nrefused alloc 1 2 5 9\nrefused overflow 1 2 5 9\n"
unfolding text_of digits
both_texts = refl

given_back_texts : flat_map text_of (GivenBack 1 2 AllocError ∷ GivenBack 1 2 CapacityOverflow ∷ ItemGivenBack 1 AllocError
    ∷ ItemGivenBack 1 CapacityOverflow ∷ [])
    ≡ codes "refused alloc 1 2\nrefused overflow 1 2\nrefused alloc 1\nrefused overflow 1\n"
unfolding text_of digits
given_back_texts = refl

walk_texts : flat_map text_of (Pairs (Some (8, 3) ∷ Some (5, 2) ∷ None ∷ None ∷ []) ∷ Pairs [] ∷ BadRange ∷ []) ≡ codes "list 8:3 5:2 - -\nlist\nbad range\n"
unfolding text_of digits
walk_texts = refl

set_texts : flat_map text_of (Key None ∷ Key (Some 7) ∷ Keys [] ∷ Keys (Some 2 ∷ None ∷ Some 3 ∷ []) ∷ Order Less ∷ Order Equal ∷ Order Greater ∷ [])
    ≡ codes "none\nsome 7\nlist\nlist 2 - 3\nless\nequal\ngreater\n"
unfolding text_of digits
set_texts = refl
