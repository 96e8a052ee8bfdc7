use Rattle.std.proofs.Common.{rules, ◌≡◌, ◌++◌}
use Rattle.fc_base.proofs.CopiedFacts.{extended_equal}
use Rattle.fc_base.proofs.try_clone.at_once.copy_all.Goals as goal

pub returns-clause-extended : goal.returns-clause-extended
returns-clause-extended g c =
    let is : c.extend_from_slice.new.self.items ≡ c.args.copies.now.items ++ c.args.sources.now = search rules in
    extended_equal c.args.copies.now.items c.args.sources.now c.extend_from_slice.new.self.items is
