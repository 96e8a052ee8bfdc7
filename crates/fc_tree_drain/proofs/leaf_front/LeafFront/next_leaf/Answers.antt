use Rattle.std.proofs.Common.{rules, inl, ◌++◌, ap, sym, ◌∙◌, arith}
use Rattle.std.proofs.lemmas.List.{nil_from_length}
use Rattle.fc_tree_node.specs.Node.{items_or_none}
use Rattle.fc_tree_node.proofs.Made.{own_made, field_made}
use Rattle.fc_tree_drain.specs.Opened.{after_front}
use Rattle.fc_tree_drain.proofs.Ends.{nodes_there}
use Rattle.fc_tree_drain.proofs.LeafFronts.{some_leaf, open_leaf, few_blocks, block_below}
use Rattle.fc_tree_drain.proofs.leaf_front.LeafFront.next_leaf.Goals as goal

pub pop_first_pair-pair-requires : goal.pop_first_pair-pair-requires
pop_first_pair-pair-requires g c =
    let s = c.self.inside in
    let none = ap (λ f. f.in_leaf) c.self.view_is ∙ c.requires.used_up in
    let some = nodes_there (items_or_none s.run) s.nodes c.args.self.now.pairs (ap (λ f. f.pairs) c.self.view_is) c.requires.some none in
    (search rules, (some, (c.self.invariant.0, ap items_or_none c.take.ensures.after)))

pub invariant_of-self : goal.invariant_of-self
invariant_of-self g c =
    let p = c.pop_first_pair-pair.ensures in
    let even = p.even c.self.invariant.1 in
    (p.levels, even.0, some_leaf _ c.pop_first_pair-pair.new.stack (inl even.1), p.fits)

pub returns-clause-pairs : goal.returns-clause-pairs
returns-clause-pairs g c =
    let s = c.self.inside in
    let none = nil_from_length (items_or_none s.run) (ap (λ f. f.in_leaf) c.self.view_is ∙ c.requires.used_up) in
    sym (ap (λ f. f.pairs) c.self.view_is) ∙ ap (λ xs. xs ++ after_front s.nodes) none ∙ c.pop_first_pair-pair.ensures.pairs

pub returns-clause-empty : goal.returns-clause-empty
returns-clause-empty g c = (own_made _ ∙ c.into_slots.ensures, field_made _)

pub returns-clause-leaf : goal.returns-clause-leaf
returns-clause-leaf g c = open_leaf c.pop_first_pair-pair.new.run c.pop_first_pair-pair.new.stack c.pop_first_pair-pair.ensures.fits

pub returns-clause-blocks : goal.returns-clause-blocks
returns-clause-blocks g c =
    let s = c.self.inside in
    let none = ap (λ f. f.in_leaf) c.self.view_is ∙ c.requires.used_up in
    let some = nodes_there (items_or_none s.run) s.nodes c.args.self.now.pairs (ap (λ f. f.pairs) c.self.view_is) c.requires.some none in
    let view = ap (λ f. f.blocks) c.self.view_is in
    let was = block_below s.run s.nodes c.self.invariant.2 some in
    let now = few_blocks c.pop_first_pair-pair.new.run in
    omega (arith, view, was, now, c.pop_first_pair-pair.ensures.blocks c.self.invariant.1)
