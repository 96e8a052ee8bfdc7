-- Replies as text.
use Rattle.std.specs.Prelude.{◌≡◌, ℕ, ◌≤◌, length, take, List, [], ◌∷◌, ◌++◌, codes, Bool, true, false, Option, Some, None}
use Rattle.std.specs.List.{flat_map}
use Rattle.std.specs.Fmt.{decimal}
use Rattle.std.specs.declared.cmp.Ordering.{Ordering}
use Rattle.std.specs.declared.cmp.Ordering.TheVariants.{Less, Equal, Greater}
use Rattle.fc_base.specs.declared.try_reserve_error.TryReserveError.{TryReserveError}
use Rattle.fc_base.specs.declared.try_reserve_error.TryReserveError.TheVariants.{AllocError, CapacityOverflow}
use Rattle.fc_lines.specs.declared.command.Reply.{Reply}
use Rattle.fc_lines.specs.declared.command.Reply.TheVariants.{Done, Flag, Key, Value, Pair, Len, Pairs, Keys, Order, BadRange, Refused, GivenBack, ItemGivenBack, Both, BothGivenBack}

-- A number that may be missing.
abbrev pub option_text : Option ℕ → List ℕ
option_text None = codes "none"
option_text (Some n) = codes "some " ++ decimal n

-- A pair of numbers that may be missing.
abbrev pub pair_text : Option (ℕ × ℕ) → List ℕ
pair_text None = codes "none"
pair_text (Some (k, v)) = codes "some " ++ decimal k ++ codes " " ++ decimal v

-- What a step of a walk gave.
abbrev pub step_text : Option (ℕ × ℕ) → List ℕ
step_text None = codes " -"
step_text (Some (k, v)) = codes " " ++ decimal k ++ codes ":" ++ decimal v

-- What a step of a walk over a set gave, or the value that one of two maps had.
abbrev pub item_text : Option ℕ → List ℕ
item_text None = codes " -"
item_text (Some n) = codes " " ++ decimal n

-- How one set stands to another.
abbrev pub order_text : Ordering → List ℕ
order_text Less = codes "less"
order_text Equal = codes "equal"
order_text Greater = codes "greater"

-- A yes or no.
abbrev pub flag_text : Bool → List ℕ
flag_text true = codes "true"
flag_text false = codes "false"

-- Why a command was refused.
abbrev pub refusal_text : TryReserveError → List ℕ
refusal_text AllocError = codes "refused alloc"
refusal_text CapacityOverflow = codes "refused overflow"

-- A reply without its line feed.
abbrev pub words_of_reply : Reply ℕ ℕ → List ℕ
words_of_reply Done = codes "done"
words_of_reply (Flag b) = flag_text b
words_of_reply (Key k) = option_text k
words_of_reply (Value v) = option_text v
words_of_reply (Both v w) = codes "both" ++ item_text v ++ item_text w
words_of_reply (Pair p) = pair_text p
words_of_reply (Len n) = decimal n
words_of_reply (Pairs steps) = codes "list" ++ flat_map step_text steps
words_of_reply (Keys steps) = codes "list" ++ flat_map item_text steps
words_of_reply (Order o) = order_text o
words_of_reply BadRange = codes "bad range"
words_of_reply (Refused e) = refusal_text e
words_of_reply (GivenBack k v e) = refusal_text e ++ codes " " ++ decimal k ++ codes " " ++ decimal v
words_of_reply (BothGivenBack k v l w e) = refusal_text e ++ codes " " ++ decimal k ++ codes " " ++ decimal v ++ codes " " ++ decimal l ++ codes " " ++ decimal w
words_of_reply (ItemGivenBack k e) = refusal_text e ++ codes " " ++ decimal k

-- The line that is written for a reply.
unfoldable pub text_of : Reply ℕ ℕ → List ℕ
text_of reply = words_of_reply reply ++ 10 ∷ []

-- The line that is written for line n where that is not a command.
unfoldable pub fault_text : ℕ → List ℕ
fault_text n = codes "line " ++ decimal n ++ codes ": not a command\n"

-- What is left of a text that was not wholly appended: what was there, and a beginning of it after that.
abbrev pub IsBegun : (old text new : List ℕ) → Type 0
IsBegun old text new = (length old ≤ length new) × (new ≡ take (length new) (old ++ text))
