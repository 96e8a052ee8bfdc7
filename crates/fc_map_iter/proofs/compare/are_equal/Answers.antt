use Rattle.std.proofs.Common.{sym, ◌∙◌}
use Rattle.std.specs.Cmp.Lexicographic.{unequal}
use Rattle.fc_map_iter.specs.Compare.{pair_eq}
use Rattle.fc_map_iter.proofs.compare.are_equal.Goals as goal

pub returns-then-len : goal.returns-then-len
returns-then-len g c =
    sym (unequal (pair_eq g.K.PartialEq.eq g.V.PartialEq.eq) c.args.mine c.args.theirs (λ e. c.if-len.true (c.len.ensures ∙ e ∙ sym c.len-2.ensures)))
