use Rattle.std.proofs.Common.{map, ap, ◌∙◌, Some}
use Rattle.fc_tree_drain.proofs.Cells.{not_None, item_at}
use Rattle.fc_tree_drain.proofs.stack.Stack.get.Goals as goal

pub unreachable-requires : goal.unreachable-requires
unreachable-requires g c =
    let h = c.self.invariant.0 ∙ ap (map Some) c.self.view_is in
    not_None c.args.self.now c.args.index c.requires (cc)

pub returns : goal.returns
returns g c =
    let h = c.self.invariant.0 ∙ ap (map Some) c.self.view_is in
    item_at c.args.self.now c.args.index _ c.requires (cc)
