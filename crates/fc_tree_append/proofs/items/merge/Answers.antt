use Rattle.std.proofs.Common.{◌≡◌, [], ◌++◌, length, rules, sym, ap, subst, ◌∙◌, arith, append-nil}
use Rattle.std.proofs.lemmas.List.{nil_from_length}
use denote.Param.{param}
use Rattle.std.specs.Vec.Iter.{into_iter_items}
use Rattle.fc_base.specs.Ascending.{IsAscending}
use Rattle.fc_base.specs.Extended.{extended}
use Rattle.fc_tree_node.specs.Tree.{entries}
use Rattle.fc_tree_append.specs.Rising.{IsRising}
use Rattle.fc_tree_drain.proofs.Sizes.{front_fits}
use Rattle.fc_tree_build.proofs.StackSizes.{items_fit, builder_fits}
use Rattle.fc_tree_append.proofs.StableLaws.{ascending_extended, extended_more}
use Rattle.fc_tree_append.proofs.MergedFacts.{before_first, before_next, moved_on, held_back, held_front, held_length}
use Rattle.fc_tree_append.proofs.items.merge.Goals as goal

pub over-pairs-requires : goal.over-pairs-requires
over-pairs-requires g c = (front_fits (param 0 g.row.K) (param 1 g.row.V) g.row.A g.A.Allocator g.met.A.Handle.small, c.requires.sound)

pub loop-key-init : goal.loop-key-init
loop-key-init g c =
    let start : into_iter_items c.into_iter-key-iterator.result ≡ c.args.items.items = search rules in
    let room = c.requires.room in
    let left = ap length start in
    let tree = ap length c.over-pairs.ensures in
    let empty = ap length c.requires.empty in
    record {
      all = sym start;
      made = ap (λ z. z ++ c.over-pairs.result) c.requires.empty ∙ c.over-pairs.ensures;
      before = (c.requires.empty, subst (IsRising g.K.Ord.cmp) (sym start) c.requires.rising);
      room = omega arith;
      filled = omega (arith, c.room-room.ensures);
    }

pub step-requires : goal.step-requires
step-requires g c =
    let done = c.loop-key.invariant in
    let next = c.in-Some.ensures.steps.0 in
    let left = ap length next in
    let order = subst (IsAscending g.K.Ord.cmp) (sym done.made)
    (ascending_extended g.K.Ord.cmp (entries c.args.root) c.loop-key.yielded g.met.K.Ord.total c.requires.order) in (
      builder_fits (param 0 g.row.K) (param 1 g.row.V) g.row.A g.A.Allocator g.met.A.Handle.small,
      (
        front_fits (param 0 g.row.K) (param 1 g.row.V) g.row.A g.A.Allocator g.met.A.Handle.small,
        (
          before_first g.K.Ord.cmp g.met.K.Ord.total c.loop-key.builder.pairs _ _ c.loop-key.held (c.in-Some.key, c.in-Some.value) done.before next,
          (order, omega arith),
        ),
      ),
    )

pub loop-key-preserved : goal.loop-key-preserved
loop-key-preserved g c =
    let done = c.loop-key.invariant in
    let next = c.in-Some.ensures.steps.0 in
    let left = ap length next in
    let step = c.step.ensures in
    let room = step.room in
    record {
      all = moved_on c.args.items.items c.loop-key.yielded (c.in-Some.key, c.in-Some.value) _ _ done.all next;
      made = extended_more g.K.Ord.cmp (entries c.args.root) c.loop-key.yielded _ _ c.in-Some.key c.in-Some.value done.made step.put;
      before = before_next g.K.Ord.cmp g.met.K.Ord.total c.loop-key.builder.pairs c.step.new.builder.pairs _ _ c.loop-key.held
          (c.in-Some.key, c.in-Some.value) c.step.result done.before next step.same;
      room = omega arith;
      filled = step.filled ∙ done.filled;
    }

pub put_held-requires : goal.put_held-requires
put_held-requires g c =
    let all = held_length c.loop-key.held c.loop-key.pairs in
    (builder_fits (param 0 g.row.K) (param 1 g.row.V) g.row.A g.A.Allocator g.met.A.Handle.small, omega arith)

pub push_all-requires : goal.push_all-requires
push_all-requires g c =
    let all = held_length c.loop-key.held c.loop-key.pairs in
    let put = ap length c.put_held.ensures.pairs ∙ held_front c.loop-key.builder.pairs c.loop-key.held [] in (
      front_fits (param 0 g.row.K) (param 1 g.row.V) g.row.A g.A.Allocator g.met.A.Handle.small,
      (builder_fits (param 0 g.row.K) (param 1 g.row.V) g.row.A g.A.Allocator g.met.A.Handle.small, omega arith),
    )

pub array_drop-pairs-inside-requires : goal.array_drop-pairs-inside-requires
array_drop-pairs-inside-requires g c = items_fit (param 0 g.row.K) (param 1 g.row.V) g.row.A g.A.Allocator g.met.A.Handle.small

pub returns-clause-pairs : goal.returns-clause-pairs
returns-clause-pairs g c =
    let left = into_iter_items c.loop-key.key-iterator in
    let none : length left ≡ 0 = search rules in
    let done = c.loop-key.invariant.all ∙ ap (λ l. c.loop-key.yielded ++ l) (nil_from_length left none) ∙ append-nil c.loop-key.yielded in
    c.finish.ensures.pairs ∙ c.push_all.ensures.pairs ∙ ap (λ z. z ++ c.loop-key.pairs) c.put_held.ensures.pairs
    ∙ held_back c.loop-key.builder.pairs c.loop-key.held c.loop-key.pairs ∙ c.loop-key.invariant.made
    ∙ ap (λ z. extended g.K.Ord.cmp (entries c.args.root) z) (sym done)

pub returns-clause-len : goal.returns-clause-len
returns-clause-len g c =
    let all = ap length c.finish.ensures.pairs in
    omega arith
