-- Where room is taken: for lists that lines name, and for the text of lists.
use Rattle.std.specs.Prelude.{ℕ, ⊤, ◌||◌, List, codes, IsSomeAnd, IsTrue}
use Rattle.fc_lines.specs.declared.command.Command.{Command}
use Rattle.fc_lines.specs.declared.command.Command.TheVariants.{Walk, SetWalk, List as ListItems}
use Rattle.fc_lines.specs.declared.command.Reply.{Reply}
use Rattle.fc_lines.specs.declared.command.Reply.TheVariants.{Pairs, Keys}
use Rattle.fc_lines.specs.Grammar.{is_text, word_at}

-- The first word is one before a list: `walk`, `write` or `extend`.
abbrev pub NamesList : List (List ℕ) → Type 0
NamesList words = IsSomeAnd (word_at words) (λ first. IsTrue (is_text first.0 (codes "walk") || is_text first.0 (codes "write") || is_text first.0 (codes "extend")))

-- The commands whose reply may be a list: the walks, and the operations on two sets.
abbrev pub AsksForList : {K V : Type 0} → Command K V → Type 0
AsksForList (Walk side lo hi ends) = ⊤
AsksForList (SetWalk side lo hi ends) = ⊤
AsksForList (ListItems op side) = ⊤
AsksForList c = ⊥

-- Every reply but a list.
abbrev pub IsNoList : {K V : Type 0} → Reply K V → Type 0
IsNoList (Pairs steps) = ⊥
IsNoList (Keys steps) = ⊥
IsNoList reply = ⊤
