use Rattle.std.proofs.Common.{arith, refl, ◌∙◌}
use Rattle.fc_map.specs.Entries.{entries}
use Rattle.fc_map.proofs.EndFacts.{place_item}
use Rattle.fc_map.proofs.map.iter_mut.IterMut.peek_back.Goals as goal

pub returns : goal.returns
returns g c =
    let m = c.args.self.now.map.now in
    let e = c.is_done.ensures in
    let is = c.if-is_done.false in (
      grind (arith, e.1, is),
      place_item m c.step_to_previous.result (entries m) _ c.step_to_previous.ensures.sound c.step_to_previous.ensures.place refl
          (omega (arith, c.step_to_previous.ensures.before)) ∙ c.pair_of-pair.ensures,
    )
