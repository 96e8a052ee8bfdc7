use Rattle.std.proofs.Common.{length, sym, ◌∙◌, arith}
use Rattle.fc_tree_build.proofs.LoadFacts.{load_grows}
use Rattle.fc_tree_build.proofs.OrderedFacts.{put_after, ascending_after, push_refusal}
use Rattle.fc_tree_build.proofs.ordered.push_after.Goals as goal

pub returns-then-len-eq18446744073709551615-clause-new_key : goal.returns-then-len-eq18446744073709551615-clause-new_key
returns-then-len-eq18446744073709551615-clause-new_key g c = (put_after g.K.Ord.cmp c.args.tree.now.pairs c.args.key c.args.value c.requires.after).1

pub returns-in-Ok-clause-put : goal.returns-in-Ok-clause-put
returns-in-Ok-clause-put g c = c.in-Ok.ensures.pairs ∙ sym (put_after g.K.Ord.cmp c.args.tree.now.pairs c.args.key c.args.value c.requires.after).0

pub returns-in-Ok-clause-ascending : goal.returns-in-Ok-clause-ascending
returns-in-Ok-clause-ascending g c = ascending_after g.K.Ord.cmp c.args.tree.now.pairs c.push.new.self.pairs c.args.key c.args.value g.met.K.Ord.total
    c.in-Ok.ensures.pairs c.requires.after c.requires.ascending

pub returns-in-Err-clause-new_key : goal.returns-in-Err-clause-new_key
returns-in-Err-clause-new_key g c = (put_after g.K.Ord.cmp c.args.tree.now.pairs c.args.key c.args.value c.requires.after).1

pub returns-in-Err-clause-error : goal.returns-in-Err-clause-error
returns-in-Err-clause-error g c =
    push_refusal c.args.tree.now.pairs c.len.result c.in-Err.error c.len.ensures c.if-len-eq18446744073709551615.false c.in-Err.ensures.error
    c.in-Err.ensures.full

pub returns-then-len-eq18446744073709551615-clause-at_most : goal.returns-then-len-eq18446744073709551615-clause-at_most
returns-then-len-eq18446744073709551615-clause-at_most g c = let more = load_grows (length c.args.tree.now.pairs) in omega (arith, more)
