use Rattle.fc_tree_removal.proofs.Exchanged.{IsExchanged, exchanged}
use Rattle.fc_tree_removal.proofs.replacement.exchange.Given as given
use Rattle.fc_tree_removal.proofs.replacement.exchange.Goals as goal

facts : (g : given.Over) (c : goal.After-replace g)
    → IsExchanged c.args.root.now c.replace.new.node c.args.path.now c.args.pair c.replace.result c.args.count.now c.replace.new.count
facts g c =
    let r = c.replace.ensures in
    exchanged c.args.root.now c.replace.new.node c.args.path.now _ c.args.pair _ c.args.count.now _ c.as_slice.ensures.value
    c.requires.sound c.requires.place r.old r.pairs r.size r.levels r.moves

pub returns-clause-old : goal.returns-clause-old
returns-clause-old g c = (facts g c).old_is

pub returns-clause-pairs : goal.returns-clause-pairs
returns-clause-pairs g c = (facts g c).pairs_is

pub returns-clause-length : goal.returns-clause-length
returns-clause-length g c = (facts g c).length_is

pub returns-clause-some : goal.returns-clause-some
returns-clause-some g c = (facts g c).some

pub returns-clause-sound : goal.returns-clause-sound
returns-clause-sound g c = (facts g c).sound

pub returns-clause-moves : goal.returns-clause-moves
returns-clause-moves g c = (facts g c).moves
