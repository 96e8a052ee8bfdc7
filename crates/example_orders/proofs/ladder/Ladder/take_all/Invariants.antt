use Rattle.std.proofs.Common.{◌≡◌, ◌≤◌}
use Rattle.example_orders.specs.Orders.{after_fills, unfilled}
use Rattle.example_orders.specs.Fills.{fills_of, AreTold}
use Rattle.example_orders.proofs.ladder.Ladder.take_all.Given as goal

-- the fills that are still to come are the last of all
abbrev pub invariant-loop-left : goal.invariant-loop-left
invariant-loop-left g l = record {
  callable : goal.F-IsAlwaysCallable g l.tell;
  at_most : l.left ≤ l.wanted;
  rest : after_fills l.limit l.left l.self ≡ after_fills l.limit l.wanted l.initial.self;
  missing : unfilled l.limit l.left l.self ≡ unfilled l.limit l.wanted l.initial.self;
  told : (last : _) → AreTold (goal.F-step g) l.tell (fills_of l.limit l.left l.self) last
      → AreTold (goal.F-step g) l.initial.tell (fills_of l.limit l.wanted l.initial.self) last;
}

abbrev pub decreases-loop-left : goal.decreases-loop-left
decreases-loop-left g l = l.left
