-- Which lines are commands.
use Rattle.std.specs.Prelude.{ℕ, ◌^◌, ◌==◌, ◌&&◌, Bool, List, [], ◌∷◌, length, nat_eq, nat_lt, nat_le, codes, Option, Some, None, if◌then◌else◌}
use Rattle.std.specs.List.{list_all}
use Rattle.std.specs.Option.{option_map}
use Rattle.std.specs.Cmp.Lexicographic.{pointwise}
use Rattle.std.specs.Char.{is_ascii_digit}
use Rattle.std.specs.Str.Parse.{digits_value}
use Rattle.std.specs.declared.ops.Bound.{Bound}
use Rattle.std.specs.declared.ops.Bound.TheVariants.{Included, Excluded, Unbounded}
use Rattle.fc_lines.specs.declared.command.Side.{Side}
use Rattle.fc_lines.specs.declared.command.Side.TheVariants.{First, Second}
use Rattle.fc_lines.specs.declared.command.End.{End}
use Rattle.fc_lines.specs.declared.command.End.TheVariants.{Front, Back}
use Rattle.fc_lines.specs.declared.command.SetOp.{SetOp}
use Rattle.fc_lines.specs.declared.command.SetOp.TheVariants.{Difference, SymmetricDifference, Intersection, Union}
use Rattle.fc_lines.specs.declared.command.Command.{Command}
use Rattle.fc_lines.specs.declared.command.Command.TheVariants.{Insert, Get, GetKeyValue, ContainsKey, Remove, Set, Entry, RemoveEntry, Len, Clear, Walk, Write, Append, SplitOff, TryClone, Extend, InsertBoth}
use Rattle.fc_lines.specs.declared.command.Command.TheVariants.{AddItem, ReplaceItem, TakeItem, RemoveItem, ContainsItem, GetItem, SetLen, SetClear, SetAppend, SetSplitOff, SetClone, SetExtend, SetWalk, List as ListItems, Keep, IsDisjoint, IsSubset, IsSuperset, SetCmp}
use Rattle.fc_lines.specs.Lines.{words_of}

-- What follows is asked only where something is there.
infixl 10 ◌>>=◌
abbrev pub ◌>>=◌ : {A B : Type 0} → Option A → (A → Option B) → Option B
None >>= f = None
(Some x) >>= f = f x

-- Whether a word is this text.
abbrev pub is_text : List ℕ → List ℕ → Bool
is_text word text = pointwise nat_eq word text

-- A number is 1 to 20 digits, of a value below 2 ^ 64.
abbrev pub is_number : List ℕ → Bool
is_number word = nat_lt 0 (length word) && nat_le (length word) 20 && list_all is_ascii_digit word && nat_lt (digits_value 10 word) (2 ^ 64)

-- The number that a word writes.
abbrev pub number_of : List ℕ → Option ℕ
number_of word = if is_number word then Some (digits_value 10 word) else None

-- The set that a word names.
abbrev pub set_named : List ℕ → Option Side
set_named word = if is_text word (codes "s") then Some First else if is_text word (codes "t") then Some Second else None

-- The operation on two sets that a word names.
abbrev pub op_of : List ℕ → Option SetOp
op_of word = if is_text word (codes "diff") then Some Difference
    else if is_text word (codes "sym") then Some SymmetricDifference
    else if is_text word (codes "inter") then Some Intersection
    else if is_text word (codes "union") then Some Union
    else None

-- The bound that a word writes: `*` is 42, `=` is 61 and `!` is 33.
abbrev pub bound_of : List ℕ → Option (Bound ℕ)
bound_of [] = None
bound_of (x ∷ digits) = if x == 61 then option_map Included (number_of digits)
    else if x == 33 then option_map Excluded (number_of digits)
    else if is_text (x ∷ digits) (codes "*") then Some Unbounded
    else None

-- The end that a letter names: `f` is 102 and `b` is 98.
abbrev pub end_of : ℕ → Option End
end_of x = if x == 102 then Some Front else if x == 98 then Some Back else None

-- The end and the value that a word writes: a letter, then `=`, which is 61, and a number.
abbrev pub one_write_of : List ℕ → Option (End × ℕ)
one_write_of (letter ∷ x ∷ digits) = if x == 61 then (end_of letter >>= λ end. option_map (λ v. (end, v)) (number_of digits)) else None
one_write_of (letter ∷ []) = None
one_write_of [] = None

-- What each of them is read as, if each is.
abbrev pub all_read : {A B : Type 0} → (A → Option B) → List A → Option (List B)
all_read f [] = Some []
all_read f (x ∷ xs) = f x >>= λ y. option_map (λ ys. y ∷ ys) (all_read f xs)

-- The same of one or more.
abbrev pub some_read : {A B : Type 0} → (A → Option B) → List A → Option (List B)
some_read f xs = if nat_lt 0 (length xs) then all_read f xs else None

-- The first word, and the words after it.
abbrev pub word_at : List (List ℕ) → Option (List ℕ × List (List ℕ))
word_at [] = None
word_at (word ∷ words) = Some (word, words)

-- The set that the first word names, and the words after it.
unfoldable pub set_at : List (List ℕ) → Option (Side × List (List ℕ))
set_at words = do
  first ← word_at words
  side ← set_named first.0
  Some (side, first.1)

-- The number that the first word writes, and the words after it.
unfoldable pub number_at : List (List ℕ) → Option (ℕ × List (List ℕ))
number_at words = do
  first ← word_at words
  n ← number_of first.0
  Some (n, first.1)

-- The bound that the first word writes, and the words after it.
unfoldable pub bound_at : List (List ℕ) → Option (Bound ℕ × List (List ℕ))
bound_at words = do
  first ← word_at words
  bound ← bound_of first.0
  Some (bound, first.1)

-- The key and the value that the first two words write, and the words after them.
unfoldable pub pair_at : List (List ℕ) → Option ((ℕ × ℕ) × List (List ℕ))
pair_at words = do
  k ← number_at words
  v ← number_at k.1
  Some ((k.0, v.0), v.1)

-- The pairs that the words write, a key and a value each.
abbrev pub all_pairs : List (List ℕ) → Option (List (ℕ × ℕ))
all_pairs [] = Some []
all_pairs (k ∷ []) = None
all_pairs (k ∷ v ∷ words) = do
  key ← number_of k
  value ← number_of v
  option_map (λ pairs. (key, value) ∷ pairs) (all_pairs words)

-- The same of one or more.
abbrev pub some_pairs : List (List ℕ) → Option (List (ℕ × ℕ))
some_pairs words = if nat_lt 0 (length words) then all_pairs words else None

-- Whether no word is left.
abbrev pub is_end : List (List ℕ) → Bool
is_end words = nat_eq 0 (length words)

-- What was read, if no word is left.
abbrev pub whole_line : {A : Type 0} → A → List (List ℕ) → Option A
whole_line x [] = Some x
whole_line x (word ∷ words) = None

-- The command that a word asks for on a map.
abbrev pub on_whole_map : List ℕ → Side → Option (Command ℕ ℕ)
on_whole_map word side = if is_text word (codes "len") then Some (Len side)
    else if is_text word (codes "clear") then Some (Clear side)
    else if is_text word (codes "append") then Some (Append side)
    else if is_text word (codes "copy") then Some (TryClone side)
    else None

-- The command that a word asks for on a map and a key.
abbrev pub on_key : List ℕ → Side → ℕ → Option (Command ℕ ℕ)
on_key word side k = if is_text word (codes "get") then Some (Get side k)
    else if is_text word (codes "pair") then Some (GetKeyValue side k)
    else if is_text word (codes "has") then Some (ContainsKey side k)
    else if is_text word (codes "remove") then Some (Remove side k)
    else if is_text word (codes "evict") then Some (RemoveEntry side k)
    else if is_text word (codes "split") then Some (SplitOff side k)
    else None

-- The command that a word asks for on a map, a key and a value.
abbrev pub on_pair : List ℕ → Side → ℕ → ℕ → Option (Command ℕ ℕ)
on_pair word side k v = if is_text word (codes "insert") then Some (Insert side k v)
    else if is_text word (codes "set") then Some (Set side k v)
    else None

-- The steps of a walk are two bounds and one word of letters.
unfoldable pub steps_of : List (List ℕ) → Option (Bound ℕ × Bound ℕ × List End)
steps_of words = do
  lo ← bound_at words
  hi ← bound_at lo.1
  letters ← word_at hi.1
  ends ← some_read end_of letters.0
  whole_line (lo.0, hi.0, ends) letters.1

-- After the map of `walk` are steps.
unfoldable pub walk_of : Side → List (List ℕ) → Option (Command ℕ ℕ)
walk_of side words = option_map (λ steps. Walk side steps.0 steps.1 steps.2) (steps_of words)

-- After the map of `write` are two bounds and one or more writes.
unfoldable pub write_of : Side → List (List ℕ) → Option (Command ℕ ℕ)
write_of side words = do
  lo ← bound_at words
  hi ← bound_at lo.1
  writes ← some_read one_write_of hi.1
  Some (Write side lo.0 hi.0 writes)

-- After the map of `extend` are one or more pairs.
unfoldable pub extend_of : Side → List (List ℕ) → Option (Command ℕ ℕ)
extend_of side words = option_map (Extend side) (some_pairs words)

-- After a map, a key and a value is the second value of `entry`.
unfoldable pub entry_of : List ℕ → Side → ℕ → ℕ → List (List ℕ) → Option (Command ℕ ℕ)
entry_of word side k v words = do
  w ← number_at words
  if is_text word (codes "entry") then whole_line (Entry side k v w.0) w.1 else None

-- After a map and a key is a value, and where that ends no line another.
unfoldable pub valued_of : List ℕ → Side → ℕ → List (List ℕ) → Option (Command ℕ ℕ)
valued_of word side k words = do
  v ← number_at words
  if is_end v.1 then on_pair word side k v.0 else entry_of word side k v.0 v.1

-- After a map is a key, and where that ends no line a value.
unfoldable pub keyed_of : List ℕ → Side → List (List ℕ) → Option (Command ℕ ℕ)
keyed_of word side words = do
  k ← number_at words
  if is_end k.1 then on_key word side k.0 else valued_of word side k.0 k.1

-- What a word that names no list asks of a map, by how many numbers are after the map.
unfoldable pub plain_of : List ℕ → Side → List (List ℕ) → Option (Command ℕ ℕ)
plain_of word side words = if is_end words then on_whole_map word side else keyed_of word side words

-- What a word and those after the map ask of it.
unfoldable pub on_map_of : List ℕ → Side → List (List ℕ) → Option (Command ℕ ℕ)
on_map_of word side words = if is_text word (codes "walk") then walk_of side words
    else if is_text word (codes "write") then write_of side words
    else if is_text word (codes "extend") then extend_of side words
    else plain_of word side words

-- The words after `both` are a key and a value for the first map, and a key and a value for the second.
unfoldable pub both_of : List (List ℕ) → Option (Command ℕ ℕ)
both_of words = do
  k ← number_at words
  v ← number_at k.1
  l ← number_at v.1
  w ← number_at l.1
  whole_line (InsertBoth k.0 v.0 l.0 w.0) w.1

-- After the set of `walk` are steps.
unfoldable pub walk_items_of : Side → List (List ℕ) → Option (Command ℕ ℕ)
walk_items_of side words = option_map (λ steps. SetWalk side steps.0 steps.1 steps.2) (steps_of words)

-- After the set of `extend` are one or more items.
unfoldable pub extend_items_of : Side → List (List ℕ) → Option (Command ℕ ℕ)
extend_items_of side words = option_map (SetExtend side) (some_read number_of words)

-- The command that a word asks for on a set.
abbrev pub on_whole_set : List ℕ → Side → Option (Command ℕ ℕ)
on_whole_set word side = if is_text word (codes "len") then Some (SetLen side)
    else if is_text word (codes "clear") then Some (SetClear side)
    else if is_text word (codes "append") then Some (SetAppend side)
    else if is_text word (codes "copy") then Some (SetClone side)
    else if is_text word (codes "disjoint") then Some (IsDisjoint side)
    else if is_text word (codes "subset") then Some (IsSubset side)
    else if is_text word (codes "superset") then Some (IsSuperset side)
    else if is_text word (codes "cmp") then Some (SetCmp side)
    else option_map (λ op. ListItems op side) (op_of word)

-- The command that a word asks for on a set and an item.
abbrev pub on_item : List ℕ → Side → ℕ → Option (Command ℕ ℕ)
on_item word side k = if is_text word (codes "add") then Some (AddItem side k)
    else if is_text word (codes "replace") then Some (ReplaceItem side k)
    else if is_text word (codes "take") then Some (TakeItem side k)
    else if is_text word (codes "drop") then Some (RemoveItem side k)
    else if is_text word (codes "in") then Some (ContainsItem side k)
    else if is_text word (codes "find") then Some (GetItem side k)
    else if is_text word (codes "split") then Some (SetSplitOff side k)
    else None

-- After a set is an item.
unfoldable pub with_item_of : List ℕ → Side → List (List ℕ) → Option (Command ℕ ℕ)
with_item_of word side words = do
  k ← number_at words
  command ← on_item word side k.0
  whole_line command k.1

-- What a word that names no list asks of a set, by whether an item is after the set.
unfoldable pub plain_on_set_of : List ℕ → Side → List (List ℕ) → Option (Command ℕ ℕ)
plain_on_set_of word side words = if is_end words then on_whole_set word side else with_item_of word side words

-- What a word and those after the set ask of it.
unfoldable pub on_set_of : List ℕ → Side → List (List ℕ) → Option (Command ℕ ℕ)
on_set_of word side words = if is_text word (codes "walk") then walk_items_of side words
    else if is_text word (codes "extend") then extend_items_of side words
    else plain_on_set_of word side words

-- The words after `keep` are an operation and a set.
unfoldable pub keep_of : List (List ℕ) → Option (Command ℕ ℕ)
keep_of words = do
  first ← word_at words
  op ← op_of first.0
  c ← set_at first.1
  whole_line (Keep op c.0) c.1

-- The words after such a word are a map or a set, and what the word wants after it.
unfoldable pub on_one_of : List ℕ → List (List ℕ) → Option (Command ℕ ℕ)
on_one_of word words = do
  name ← word_at words
  if is_text name.0 (codes "a") then on_map_of word First name.1
      else if is_text name.0 (codes "b") then on_map_of word Second name.1
      else if is_text name.0 (codes "s") then on_set_of word First name.1
      else if is_text name.0 (codes "t") then on_set_of word Second name.1
      else None

-- The command that the words ask for, by the first of them.
unfoldable pub command_of_words : List (List ℕ) → Option (Command ℕ ℕ)
command_of_words words = do
  first ← word_at words
  if is_text first.0 (codes "both") then both_of first.1
      else if is_text first.0 (codes "keep") then keep_of first.1
      else on_one_of first.0 first.1

-- The command that a line of at most 4096 bytes asks for, if it is one.
unfoldable pub command_of : List ℕ → Option (Command ℕ ℕ)
command_of line = if nat_le (length line) 4096 then command_of_words (words_of line) else None
