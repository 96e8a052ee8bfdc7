use Rattle.std.proofs.Common.{◌+◌, arith, subst, sym}
use Rattle.fc_tree_cursor.specs.Leaf.{advanced}
use Rattle.fc_tree_cursor.specs.Gap.{IsGapIn}
use Rattle.fc_map.proofs.EndFacts.{gap_less}
use Rattle.fc_map.proofs.map.BTreeMap.step_to_next.Goals as goal

pub step_in_leaf-requires-clause-gap : goal.step_in_leaf-requires-clause-gap
step_in_leaf-requires-clause-gap g c = gap_less c.args.self.now c.args.path.now c.args.full.now (c.args.gone.now + 1) c.requires.full (omega arith)

pub returns-then-gone-full : goal.returns-then-gone-full
returns-then-gone-full g c =
    let m = c.args.self.now in
    let path = c.args.path.now in
    let e = c.step_in_leaf.ensures in
    let gap = gap_less m path c.args.full.now (c.args.gone.now + 1) c.requires.full (omega arith) in
    record {
      way = e.way;
      small = e.small;
      place = e.place;
      before = e.before;
      gap = subst (λ k. IsGapIn m (advanced path k)) (sym e.gone) gap;
      full =
          c.requires.full;
      step = e.step;
      sound = e.sound;
    }
