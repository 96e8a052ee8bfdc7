use Rattle.std.proofs.Common.{◌≡◌, ◌∙◌, length, ap, arith}
use Rattle.fc_base.specs.Ascending.{IsAscending}
use Rattle.fc_tree_node.specs.Node.{pairs_of}
use Rattle.fc_map.specs.Entries.{entries}
use Rattle.fc_map.proofs.ExchangeFacts.{placed_in, ascending_placed}
use Rattle.fc_map.proofs.PlaceFacts.{held_pair}
use Rattle.fc_map.proofs.map.BTreeMap.exchange_at.Goals as goal

pub exchange-requires-clause-place : goal.exchange-requires-clause-place
exchange-requires-clause-place g c = let found = rw c.in-Some.is at (rw (← c.self.view_is) at c.requires.held) in found.place

pub invariant_of-self : goal.invariant_of-self
invariant_of-self g c =
    let x = c.exchange.ensures in
    let found = rw c.in-Some.is at (rw (← c.self.view_is) at c.requires.held) in
    let put = placed_in g.K.Ord.cmp c.in-Some.root c.args.path.now c.args.pair (pairs_of c.exchange.new.root) (rw c.in-Some.is at c.self.invariant.1) found
    x.pairs in
    let ascending : IsAscending g.K.Ord.cmp (pairs_of c.in-Some.root) = rw c.in-Some.is at c.self.invariant.0 in
    let len : c.self.inside.len ≡ length (pairs_of c.in-Some.root) = c.self.invariant.2 ∙ ap (λ r. length (entries r)) c.in-Some.is in
    (rw put (ascending_placed g.K.Ord.cmp g.met.K.Ord.total _ c.args.pair ascending), x.sound, omega (arith, x.length, len))

pub returns-clause-old : goal.returns-clause-old
returns-clause-old g c = held_pair g.K.Ord.cmp c.args.pair.0 c.args.self.now c.args.path.now c.requires.sound c.requires.held
    ∙ rw (← c.self.view_is) (rw c.in-Some.is c.exchange.ensures.old)

pub returns-clause-put : goal.returns-clause-put
returns-clause-put g c =
    let found = rw c.in-Some.is at (rw (← c.self.view_is) at c.requires.held) in
    rw (← c.self.view_is) (rw c.in-Some.is (placed_in g.K.Ord.cmp c.in-Some.root c.args.path.now c.args.pair (pairs_of c.exchange.new.root)
    (rw c.in-Some.is at c.self.invariant.1) found c.exchange.ensures.pairs))

pub returns-clause-ascending : goal.returns-clause-ascending
returns-clause-ascending g c = (invariant_of-self g c).0

pub returns-clause-blocks : goal.returns-clause-blocks
returns-clause-blocks g c = rw (← c.self.view_is) (rw c.in-Some.is c.exchange.ensures.blocks)
