use Rattle.std.proofs.Common.{◌≡◌, [], ◌++◌, inl, sym, ap, ◌∙◌}
use Rattle.fc_map.specs.Entries.{entries}
use Rattle.fc_map.proofs.ExtendFacts.{all_closed, merged_beside, kept_beside}
use Rattle.fc_map.proofs.map.bulk_insert.BulkInsert.merge.Given as given
use Rattle.fc_map.proofs.map.bulk_insert.BulkInsert.merge.Goals as goal

-- the tree has no pair
none : (g : given.Over) (c : goal.After-merge g) → c.self.inside.tree.pairs ≡ []
none g c =
    all_closed g.K.Ord.cmp c.self.inside.tree.pairs (entries c.self.inside.map) c.self.invariant (λ no. c.if-len-eq0.false (c.len-len.ensures.value ∙ no))

pub invariant_of-self : goal.invariant_of-self
invariant_of-self g c = (c.self.invariant.0, inl (none g c))

pub returns-clause-merged : goal.returns-clause-merged
returns-clause-merged g c =
    let tree = c.self.inside.tree.pairs in
    let map = entries c.self.inside.map in
    merged_beside g.K.Ord.cmp c.merge.result tree map (entries c.merge.new.self) c.args.self.now.pairs c.args.items.items (none g c)
    (sym (ap (λ z. z ++ map) (none g c)) ∙ ap (λ e. e.pairs) c.self.view_is) c.merge.ensures.merged

pub returns-clause-unchanged : goal.returns-clause-unchanged
returns-clause-unchanged g c =
    kept_beside _ c.merge.result c.self.inside.tree.pairs c.self.inside.map c.merge.new.self c.args.self.now c.self.view_is c.merge.ensures.unchanged
