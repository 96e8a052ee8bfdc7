use Rattle.std.proofs.Common.{◌≡◌, length, ap, ◌∙◌, arith}
use Rattle.std.proofs.lemmas.Bool.Decides.{nat_tests}
use Rattle.fc_tree_insertion.proofs.NewPairSteps.{length_steps_to_new_pair}
use Rattle.fc_tree_insertion.proofs.steps_to_new_pair.lead_to_new_pair.Goals as goal

pub push_front-requires : goal.push_front-requires
push_front-requires c =
    let n : length c.lead_within_halves-right.new.place ≡ length c.args.path.now = ap length c.lead_within_halves-right.ensures.steps ∙
    length_steps_to_new_pair 0 c.args.path.now in
    grind (arith, nat_tests)
