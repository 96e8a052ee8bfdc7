use Rattle.std.proofs.Common.{◌≡◌, [], ◌+◌, ◌≤◌, ◌++◌, length}
use Rattle.std.specs.Vec.Iter.{into_iter_items}
use Rattle.fc_base.specs.Extended.{extended}
use Rattle.fc_tree_node.specs.Tree.{entries}
use Rattle.fc_tree_append.specs.Rising.{with_held}
use Rattle.fc_tree_append.proofs.MergedFacts.{IsBefore}
use Rattle.fc_tree_append.proofs.items.merge.Given as goal

-- the items so far are put in, and there is room for all that is left
abbrev pub invariant-loop-key : goal.invariant-loop-key
invariant-loop-key g l = record {
  all : l.fn.items.items ≡ l.yielded ++ into_iter_items l.key-iterator;
  made : with_held l.builder.pairs l.held l.pairs ≡ extended g.K.Ord.cmp (entries l.fn.root) l.yielded;
  before : IsBefore g.K.Ord.cmp g.met.K.Ord.total l.builder.pairs l.held (into_iter_items l.key-iterator);
  room : length (with_held [] l.held l.pairs) + length (into_iter_items l.key-iterator) ≤ l.builder.room;
  filled : length l.builder.pairs + l.builder.room ≡ l.room;
}
