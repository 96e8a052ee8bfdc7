use Rattle.std.proofs.Common.{arith, refl, ◌∙◌}
use Rattle.fc_map.specs.Entries.{entries}
use Rattle.fc_map.specs.Lends.{branch}
use Rattle.fc_map.proofs.EndFacts.{place_item}
use Rattle.fc_map.proofs.map.range_mut.RangeMut.peek.Goals as goal

pub returns : goal.returns
returns g c =
    let e = c.is_done.ensures in
    let m = c.args.self.now.map.now in
    let is = c.if-is_done.false in
    let t = c.step_to_next-way in (
      grind (arith, e.1, is),
      place_item m (branch t.new.path t.result.0 t.result.1) (entries m) _ t.ensures.sound t.ensures.place refl t.ensures.before
          ∙ c.pair_on-pair.ensures,
    )
