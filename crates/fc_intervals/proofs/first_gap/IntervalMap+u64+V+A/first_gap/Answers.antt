use Rattle.std.proofs.Common.{◌<◌, arith}
use Rattle.std.proofs.lemmas.Bool.Decides.{nat_tests}
use Rattle.fc_intervals.proofs.FirstGap.{first_found, none_found}
use Rattle.fc_intervals.proofs.first_gap.IntervalMap+u64+V+A.first_gap.Given as given
use Rattle.fc_intervals.proofs.first_gap.IntervalMap+u64+V+A.first_gap.Goals as goal
use Rattle.fc_intervals.proofs.first_gap.IntervalMap+u64+V+A.first_gap.Goals.{After-first_long}

some : (g : given.Over) (c : After-first_long g) → 0 < c.args.len
some g c = let none = c.if-len-eq0.false in grind (arith, nat_tests, none)

pub returns-clause-first : goal.returns-clause-first
returns-clause-first g c =
    first_found c.args.len (some g c) c.args.self.now c.args.range.start c.args.range.end c.gaps.result c.gaps.ensures.gaps c.first_long.result
    c.first_long.ensures

pub returns-clause-none : goal.returns-clause-none
returns-clause-none g c =
    none_found c.args.len (some g c) c.args.self.now c.args.range.start c.args.range.end c.gaps.result c.gaps.ensures.gaps c.first_long.result
    c.first_long.ensures
