use Rattle.std.proofs.Common.{◌≡◌, ◌*◌, ◌≤◌, ◌++◌, length, take}
use Rattle.std.specs.Prelude.{vec_capacity}
use Rattle.std.specs.List.{flat_map}
use Rattle.fc_lines.specs.Texts.{item_text}
use Rattle.fc_lines.proofs.replies.write_items.Given as goal

abbrev pub invariant-loop-item : goal.invariant-loop-item
invariant-loop-item l = record {
  written : l.text.items ≡ l.fn.text.items ++ flat_map item_text (take l.item-index l.items);
  short : length (flat_map item_text (take l.item-index l.items)) ≤ 21 * l.item-index;
  room : vec_capacity l.fn.text ≤ vec_capacity l.text;
}
