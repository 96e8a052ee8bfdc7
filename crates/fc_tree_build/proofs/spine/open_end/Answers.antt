use Rattle.std.proofs.Common.{◌≡◌, suc, length, sym, ap, subst, arith}
use Rattle.std.proofs.lemmas.List.{nil_from_length}
use Rattle.fc_tree_drain.proofs.Opening.{back_push}
use Rattle.fc_tree_build.specs.Spine.{IsSpine}
use Rattle.fc_tree_build.specs.Spares.{worth}
use Rattle.fc_tree_build.proofs.SpineFacts.{spare_taken, empty_at_back, empty_end, spine_popped, worth_pushed, count_pushed, length_pushed}
use Rattle.fc_tree_build.proofs.SpineFacts.{needed_full, needed_room}
use Rattle.fc_tree_drain.proofs.OpenedBlocks.{pushed_blocks}
use Rattle.fc_tree_build.proofs.BuiltBlocks.{spare_blocks}
use Rattle.fc_tree_build.proofs.spine.open_end.Goals as goal

pub returns-then-len-eq0-clause-pairs : goal.returns-then-len-eq0-clause-pairs
returns-then-len-eq0-clause-pairs g c = empty_at_back _ _ (spare_taken _ _ _ c.take_spare.ensures.items c.requires.empty).0

pub returns-then-len-eq0-clause-levels : goal.returns-then-len-eq0-clause-levels
returns-then-len-eq0-clause-levels g c h f =
    let e = nil_from_length c.args.spine.now (omega arith) in
    (empty_end h _ (spare_taken _ _ _ c.take_spare.ensures.items c.requires.empty).0, subst (IsSpine (suc h)) (sym e) tt)

pub returns-then-len-eq0-clause-empty : goal.returns-then-len-eq0-clause-empty
returns-then-len-eq0-clause-empty g c = (spare_taken _ _ _ c.take_spare.ensures.items c.requires.empty).1

pub returns-then-len-eq0-clause-worth : goal.returns-then-len-eq0-clause-worth
returns-then-len-eq0-clause-worth g c =
    let w : worth c.args.spine.now ≡ 0 = ap worth (nil_from_length c.args.spine.now (omega arith)) in
    let a = ap length (spare_taken _ _ _ c.take_spare.ensures.items c.requires.empty).0.0 in
    omega arith

pub returns-then-len-eq0-clause-count : goal.returns-then-len-eq0-clause-count
returns-then-len-eq0-clause-count g c =
    let a = ap length (spare_taken _ _ _ c.take_spare.ensures.items c.requires.empty).0.0 in
    omega arith

pub returns-then-len-eq0-clause-new_root : goal.returns-then-len-eq0-clause-new_root
returns-then-len-eq0-clause-new_root g c e = (spare_taken _ _ _ c.take_spare.ensures.items c.requires.empty).0.0

pub returns-clause-pairs : goal.returns-clause-pairs
returns-clause-pairs g c = back_push _ _ _ c.pop.ensures

pub returns-clause-levels : goal.returns-clause-levels
returns-clause-levels g c h f = spine_popped h _ _ _ c.pop.ensures f

pub returns-clause-worth : goal.returns-clause-worth
returns-clause-worth g c = worth_pushed _ _ _ c.pop.ensures

pub returns-clause-count : goal.returns-clause-count
returns-clause-count g c = count_pushed _ _ _ c.pop.ensures

pub returns-clause-full : goal.returns-clause-full
returns-clause-full g c some full = needed_full _ _ _ c.pop.ensures full

pub returns-clause-room : goal.returns-clause-room
returns-clause-room g c some room = needed_room _ _ _ c.pop.ensures room

pub returns-then-len-eq0-clause-blocks : goal.returns-then-len-eq0-clause-blocks
returns-then-len-eq0-clause-blocks g c =
    let spare = spare_blocks _ (spare_taken _ _ _ c.take_spare.ensures.items c.requires.empty).0 in
    let one = length_pushed _ _ _ c.take_spare.ensures.items in
    omega (arith, spare, one)

pub returns-clause-blocks : goal.returns-clause-blocks
returns-clause-blocks g c = omega (arith, pushed_blocks _ c.args.spine.now _ c.pop.ensures)
