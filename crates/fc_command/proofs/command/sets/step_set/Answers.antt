use Rattle.std.proofs.Common.{refl, ap}
use Rattle.fc_set.specs.Items.{items}
use Rattle.fc_set.specs.Operations.{difference, intersection}
use Rattle.fc_lines.specs.declared.command.Reply.TheVariants.{Flag}
use Rattle.fc_command.specs.SetStep.{answered}
use Rattle.fc_command.proofs.OperationFacts.{none_flag}
use Rattle.fc_command.proofs.command.sets.step_set.Goals as goal

-- one item or none
pub returns-in-AddItem : goal.returns-in-AddItem
returns-in-AddItem g c = rw c.in-AddItem.is (c.add.ensures c.args.other.now)

pub returns-in-ReplaceItem : goal.returns-in-ReplaceItem
returns-in-ReplaceItem g c = rw c.in-ReplaceItem.is (c.replace.ensures c.args.other.now)

pub returns-in-SetClear : goal.returns-in-SetClear
returns-in-SetClear g c = rw c.in-SetClear.is (c.clear.ensures c.args.other.now)

pub returns-in-GetItem : goal.returns-in-GetItem
returns-in-GetItem g c = rw c.in-GetItem.is (c.find.ensures c.args.other.now)

-- what was put in or given
pub returns-in-SetExtend : goal.returns-in-SetExtend
returns-in-SetExtend g c = rw c.in-SetExtend.is (c.extend.ensures c.args.other.now)

pub returns-in-SetWalk : goal.returns-in-SetWalk
returns-in-SetWalk g c = rw c.in-SetWalk.is (c.walk.ensures c.args.other.now)

-- what was copied, listed and kept
pub returns-in-SetClone : goal.returns-in-SetClone
returns-in-SetClone g c = rw c.in-SetClone.is c.copy.ensures

pub returns-in-List : goal.returns-in-List
returns-in-List g c = rw c.in-List.is c.list.ensures

pub returns-in-Keep : goal.returns-in-Keep
returns-in-Keep g c = rw c.in-Keep.is c.keep.ensures

-- what was joined and split
pub returns-in-SetAppend : goal.returns-in-SetAppend
returns-in-SetAppend g c = rw c.in-SetAppend.is c.append.ensures

pub returns-in-SetSplitOff : goal.returns-in-SetSplitOff
returns-in-SetSplitOff g c = rw c.in-SetSplitOff.is c.split_off.ensures

-- whether an operation gives nothing
pub returns-in-IsDisjoint : goal.returns-in-IsDisjoint
returns-in-IsDisjoint g c = rw c.in-IsDisjoint.is (answered (λ h. h) (
  ap Flag
      (none_flag c.is_disjoint.result (intersection g.K.Ord.cmp (items c.args.set.now) (items c.args.other.now)) c.is_disjoint.ensures),
  refl,
  refl,
))

pub returns-in-IsSubset : goal.returns-in-IsSubset
returns-in-IsSubset g c = rw c.in-IsSubset.is (answered (λ h. h) (
  ap Flag
      (none_flag c.is_subset.result (difference g.K.Ord.cmp (items c.args.set.now) (items c.args.other.now)) c.is_subset.ensures),
  refl,
  refl,
))

pub returns-in-IsSuperset : goal.returns-in-IsSuperset
returns-in-IsSuperset g c = rw c.in-IsSuperset.is (answered (λ h. h) (
  ap Flag
      (none_flag c.is_superset.result (difference g.K.Ord.cmp (items c.args.other.now) (items c.args.set.now)) c.is_superset.ensures),
  refl,
  refl,
))
