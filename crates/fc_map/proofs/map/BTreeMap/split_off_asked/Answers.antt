use Rattle.std.proofs.Common.{arith, rules, ◌<◌, length, ap}
use Rattle.fc_map.specs.Entries.{entries, IsSoundMap}
use Rattle.fc_map.proofs.SplitFacts.{split_halves}
use Rattle.fc_map.proofs.RequestFacts.{none_cut, no_blocks}
use Rattle.fc_map.proofs.map.BTreeMap.split_off_asked.Goals as goal

pub returns-clause-below : goal.returns-clause-below
returns-clause-below g c =
    let n = c.self.invariant.2 in
    let z = c.if-self-eq0.false in
    let v = ap (λ m. length (entries m)) c.self.view_is in
    let some : 0 < length (entries c.args.self.now) = omega arith in
    (split_halves g.Q.Query.order (g.Q.Query.sought c.args.key) c.args.self.now c.split_at.new.self c.locate-found.new.path c.locate-found.result
    c.split_at.result c.locate-found.ensures.sound some c.locate-found.ensures.found c.locate-found.ensures.gap c.split_at.ensures.cut).0

pub returns-clause-from : goal.returns-clause-from
returns-clause-from g c =
    let n = c.self.invariant.2 in
    let z = c.if-self-eq0.false in
    let v = ap (λ m. length (entries m)) c.self.view_is in
    let some : 0 < length (entries c.args.self.now) = omega arith in
    (split_halves g.Q.Query.order (g.Q.Query.sought c.args.key) c.args.self.now c.split_at.new.self c.locate-found.new.path c.locate-found.result
    c.split_at.result c.locate-found.ensures.sound some c.locate-found.ensures.found c.locate-found.ensures.gap c.split_at.ensures.cut).1

pub returns-then-self-eq0-clause-requests : goal.returns-then-self-eq0-clause-requests
returns-then-self-eq0-clause-requests g c =
    let none = none_cut c.self.inside.root c.self.invariant.1 (omega arith) in
    rw (← c.self.view_is) (omega (arith, none))

pub returns-then-self-eq0-clause-blocks : goal.returns-then-self-eq0-clause-blocks
returns-then-self-eq0-clause-blocks g c =
    let sound : IsSoundMap c.new.result = search rules in
    let none = no_blocks c.new.result sound (ap length c.new.ensures) in
    omega (arith, none)
