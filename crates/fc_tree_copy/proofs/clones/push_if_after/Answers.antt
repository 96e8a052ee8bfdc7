use Rattle.std.proofs.Common.{refl}
use Rattle.fc_tree_build.proofs.OrderedFacts.{ascending_after}
use Rattle.fc_tree_copy.proofs.clones.push_if_after.Goals as goal

pub returns-in-Ok-clause-ascending : goal.returns-in-Ok-clause-ascending
returns-in-Ok-clause-ascending g c = ascending_after g.K.Ord.cmp c.args.tree.now.pairs c.push.new.self.pairs c.args.key c.args.value g.met.K.Ord.total
    c.in-Ok.ensures.pairs (c.if-not-is_after_all.ensures refl) c.requires
