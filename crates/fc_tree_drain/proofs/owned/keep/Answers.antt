use Rattle.std.proofs.Common.{rules, arith}
use Rattle.fc_tree_drain.proofs.Opening.{keep_room, kept, dropped, empty_front, empty_back, front_push, back_push, even_push}
use Rattle.fc_tree_drain.proofs.OpenedBlocks.{pushed_blocks}
use Rattle.fc_tree_drain.proofs.owned.keep.Goals as goal

pub returns-then-len-eq0-clause-front : goal.returns-then-len-eq0-clause-front
returns-then-len-eq0-clause-front g c =
    empty_front c.args.node c.args.stack.now _ c.requires.1 (omega arith)

pub returns-then-len-eq0-clause-back : goal.returns-then-len-eq0-clause-back
returns-then-len-eq0-clause-back g c =
    empty_back c.args.node c.args.stack.now _ c.requires.1 (omega arith)

pub returns-then-len-eq0-clause-levels : goal.returns-then-len-eq0-clause-levels
returns-then-len-eq0-clause-levels g c h o f = dropped _ h f

pub push-requires : goal.push-requires
push-requires g c = (search rules, keep_room c.args.node _ c.requires)

pub returns-clause-front : goal.returns-clause-front
returns-clause-front g c = front_push _ _ _ c.push.ensures

pub returns-clause-back : goal.returns-clause-back
returns-clause-back g c = back_push _ _ _ c.push.ensures

pub returns-clause-levels : goal.returns-clause-levels
returns-clause-levels g c h o f =
    kept _ _ _ (omega arith) c.push.ensures h o f

pub returns-clause-even : goal.returns-clause-even
returns-clause-even g c l a = even_push c.args.stack.now _ _ c.push.ensures l a

pub returns-then-len-eq0-clause-blocks : goal.returns-then-len-eq0-clause-blocks
returns-then-len-eq0-clause-blocks g c = omega arith

pub returns-clause-blocks : goal.returns-clause-blocks
returns-clause-blocks g c = omega (arith, pushed_blocks c.args.stack.now _ _ c.push.ensures)
