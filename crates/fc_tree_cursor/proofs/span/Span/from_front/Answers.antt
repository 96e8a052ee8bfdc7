use Rattle.std.proofs.Common.{◌++◌, ◌∙◌, sym, ap, append-nil}
use Rattle.fc_tree_cursor.specs.Span.{left_between}
use Rattle.fc_tree_cursor.proofs.Sought.{left_found}
use Rattle.fc_tree_cursor.proofs.span.Span.from_front.Goals as goal

pub returns : goal.returns
returns g c =
    let m = c.args.root.now in
    let taken = c.take_first_of-has_met in
    let left = left_found m taken.new.front c.args.back c.requires.sound taken.ensures.ends in
    ap (λ xs. taken.result.0.now ++ xs) (append-nil (left_between m taken.new.front c.args.back) ∙ sym left) ∙ sym taken.ensures.run
