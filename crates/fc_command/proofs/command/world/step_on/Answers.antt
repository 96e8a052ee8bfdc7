use Rattle.std.proofs.Common.{refl}
use Rattle.fc_command.specs.Step.{refused}
use Rattle.fc_command.proofs.command.world.step_on.Goals as goal

-- a new key was refused
pub returns-in-Err : goal.returns-in-Err
returns-in-Err g c =
    let why = c.in-Err.ensures in
    rw c.in-Insert.is (refused c.in-Err.e (why.new_key, why.error) (rw (why.back.0, why.back.1) refl, why.unchanged, refl))

-- what was found
pub returns-in-Get : goal.returns-in-Get
returns-in-Get g c = rw c.in-Get.is (c.get.ensures c.args.other.now)

pub returns-in-GetKeyValue : goal.returns-in-GetKeyValue
returns-in-GetKeyValue g c = rw c.in-GetKeyValue.is (c.get_key_value.ensures c.args.other.now)

-- what was written
pub returns-in-Set : goal.returns-in-Set
returns-in-Set g c = rw c.in-Set.is (c.set.ensures c.args.other.now)

-- what an entry did
pub returns-in-Entry : goal.returns-in-Entry
returns-in-Entry g c = rw c.in-Entry.is (c.entry.ensures c.args.other.now)

-- what a walk gave or wrote
pub returns-in-Walk : goal.returns-in-Walk
returns-in-Walk g c = rw c.in-Walk.is (c.walk.ensures c.args.other.now)

pub returns-in-Write : goal.returns-in-Write
returns-in-Write g c = rw c.in-Write.is (c.write.ensures c.args.other.now)

-- what was put in
pub returns-in-Extend : goal.returns-in-Extend
returns-in-Extend g c = rw c.in-Extend.is (c.extend.ensures c.args.other.now)

-- what was joined, split and copied
pub returns-in-Append : goal.returns-in-Append
returns-in-Append g c = rw c.in-Append.is c.append.ensures

pub returns-in-SplitOff : goal.returns-in-SplitOff
returns-in-SplitOff g c = rw c.in-SplitOff.is c.split_off.ensures

pub returns-in-TryClone : goal.returns-in-TryClone
returns-in-TryClone g c = rw c.in-TryClone.is c.copy.ensures

-- what was put into both
pub returns-in-InsertBoth : goal.returns-in-InsertBoth
returns-in-InsertBoth g c = rw c.in-InsertBoth.is c.put_both.ensures
