use Rattle.std.proofs.Common.{None, arith}
use Rattle.std.proofs.lemmas.Grind.{common_steps}
use Rattle.std.proofs.lemmas.List.Folds.{length-flat_map-take}
use Rattle.std.proofs.lemmas.Result.{err_from_is_err_and}
use Rattle.fc_lines.specs.Texts.{item_text}
use Rattle.fc_lines.proofs.BeginFacts.{item_begun}
use Rattle.fc_lines.proofs.replies.write_items.Goals as goal

pub returns-in_err-write_item-clause-full : goal.returns-in_err-write_item-clause-full
returns-in_err-write_item-clause-full c = grind (
  arith,
  common_steps,
  length-flat_map-take item_text c.args.items.now c.loop-item.item-index None c.loop-item-test.true,
)

-- the text of the item is begun after those before it
pub returns-in_err-write_item-clause-begun : goal.returns-in_err-write_item-clause-begun
returns-in_err-write_item-clause-begun c =
    let p = err_from_is_err_and c.from_residual.result c.from_residual.ensures.1 in
    rw p.1 (item_begun item_text c.args.items.now c.loop-item.item-index None c.loop-item-test.true _ _ _
    c.loop-item.invariant.written c.in_err-write_item.ensures.begun)
