use Rattle.std.proofs.Common.{◌≡◌, [], ◌+◌, ◌≤◌, ◌++◌, length, inl, inr, refl, sym, ap, subst, ◌∙◌, arith}
use denote.Param.{param}
use Rattle.fc_base.specs.OneKey.{put}
use Rattle.fc_map.specs.Entries.{entries}
use Rattle.fc_base.specs.Ascending.{IsAscending}
use Rattle.fc_tree_build.proofs.StackSizes.{growing_builder_fits}
use Rattle.fc_map.specs.BulkInsert.{IsBulkInsert}
use Rattle.fc_map.proofs.ExtendFacts.{put_last, all_in_map, all_in_tree}
use Rattle.fc_tree_build.specs.Loads.{load_requests}
use Rattle.fc_tree_build.proofs.LoadFacts.{load_grows}
use Rattle.std.proofs.lemmas.Bool.{false≢true}
use Rattle.std.specs.List.{AllByRecursion}
use Rattle.std.specs.declared.cmp.Ordering.TheVariants.{Less}
use Rattle.fc_map.proofs.ExtendFacts.{put_in_tree, put_in_map, same_in_tree, same_in_map, still_new, same_refusal, after_in_tree}
use Rattle.fc_map.proofs.map.bulk_insert.BulkInsert.try_put.Given as given
use Rattle.fc_map.proofs.map.bulk_insert.BulkInsert.try_put.Goals as goal
use Rattle.fc_map.proofs.map.bulk_insert.BulkInsert.try_put.Goals.{then-is_empty, else-is_empty}

pub invariant_of-self : goal.invariant_of-self
invariant_of-self g c =
    let after = c.in_default.ensures.after refl in
    let put = c.in_default.ensures.put refl in
    (put_last g.K.Ord.cmp c.self.inside.tree.pairs (entries c.self.inside.map) _ c.args.key c.args.value g.met.K.Ord.total c.self.invariant after put).1

pub returns-in_default-clause-put : goal.returns-in_default-clause-put
returns-in_default-clause-put g c =
    let after = c.in_default.ensures.after refl in
    let last = c.in_default.ensures.put refl in
    (put_last g.K.Ord.cmp c.self.inside.tree.pairs (entries c.self.inside.map) _ c.args.key c.args.value g.met.K.Ord.total c.self.invariant after last).0
    ∙ ap (λ s. put g.K.Ord.cmp s.pairs c.args.key c.args.value) c.self.view_is

pub put_if_after-requires : goal.put_if_after-requires
put_if_after-requires g c = growing_builder_fits (param 0 g.row.K) (param 1 g.row.V) g.row.A g.A.Allocator g.met.A.Handle.small

pub is_after-requires : goal.is_after-requires
is_after-requires g c =
    let kept = subst (λ t. IsBulkInsert g.K.Ord.cmp t.pairs (entries c.self.inside.map)) (sym c.in-Some.ensures.back.1) c.self.invariant in
    (growing_builder_fits (param 0 g.row.K) (param 1 g.row.V) g.row.A g.A.Allocator g.met.A.Handle.small, kept)

pub push_after-requires : goal.push_after-requires
push_after-requires g c =
    let order = subst (λ t. IsAscending g.K.Ord.cmp t.pairs) (sym c.in-Some.ensures.back.1) c.self.invariant.0 in
    (growing_builder_fits (param 0 g.row.K) (param 1 g.row.V) g.row.A g.A.Allocator g.met.A.Handle.small, (order, c.if-is_after.ensures.after refl))

pub close-requires : goal.close-requires
close-requires g c =
    let order = subst (λ t. IsAscending g.K.Ord.cmp t.pairs) (sym c.in-Some.ensures.back.1) c.self.invariant.0 in
    (growing_builder_fits (param 0 g.row.K) (param 1 g.row.V) g.row.A g.A.Allocator g.met.A.Handle.small, order)

pub invariant_of-self-then-is_after : goal.invariant_of-self-then-is_after
invariant_of-self-then-is_after g c = (c.push_after.ensures.ascending, inr (c.if-is_after.ensures.open refl))

-- all pairs stand in the tree
in_tree : (g : given.Over) (c : goal.After-push_after g) → c.put_if_after.new.self.pairs ≡ c.args.self.now.pairs
in_tree g c =
    ap (λ t. t.pairs) c.in-Some.ensures.back.1
    ∙ all_in_tree c.self.inside.tree.pairs (entries c.self.inside.map) c.args.self.now.pairs (ap (λ e. e.pairs) c.self.view_is)
    (c.if-is_after.ensures.open refl)

pub returns-then-is_after-clause-put : goal.returns-then-is_after-clause-put
returns-then-is_after-clause-put g c =
    put_in_tree g.K.Ord.cmp c.push_after.result c.args.self.now.pairs (c.args.key, c.args.value) (c.in-Some.key, c.in-Some.value)
    c.put_if_after.new.self.pairs (entries c.self.inside.map) c.push_after.new.tree.pairs c.in-Some.ensures.back.0 (in_tree g c)
    (c.if-is_after.ensures.open refl) c.push_after.ensures.put

pub returns-then-is_after-clause-unchanged : goal.returns-then-is_after-clause-unchanged
returns-then-is_after-clause-unchanged g c =
    same_in_tree g.K.Ord.cmp c.push_after.result c.args.self.now.pairs (c.args.key, c.args.value) (c.in-Some.key, c.in-Some.value)
    c.put_if_after.new.self c.push_after.new.tree (entries c.self.inside.map)
    (ap (λ t. t.pairs ++ entries c.self.inside.map) c.in-Some.ensures.back.1 ∙ ap (λ e. e.pairs) c.self.view_is) c.push_after.ensures.unchanged

pub returns-then-is_after-clause-new_key : goal.returns-then-is_after-clause-new_key
returns-then-is_after-clause-new_key g c =
    still_new g.K.Ord.cmp c.push_after.result c.args.self.now.pairs (c.args.key, c.args.value) (c.in-Some.key, c.in-Some.value)
    c.put_if_after.new.self.pairs c.in-Some.ensures.back.0 (in_tree g c) c.push_after.ensures.new_key

pub returns-then-is_after-clause-error : goal.returns-then-is_after-clause-error
returns-then-is_after-clause-error g c =
    same_refusal g.K.Ord.cmp c.push_after.result c.args.self.now.pairs (c.args.key, c.args.value) (c.in-Some.key, c.in-Some.value)
    c.put_if_after.new.self.pairs (in_tree g c) c.push_after.ensures.error

-- all pairs stand in the map
in_map : (g : given.Over) (c : goal.After-put_asked g)
    → (c.if-is_empty.self-inside.tree.pairs ≡ []) × (entries c.if-is_empty.self-inside.map ≡ c.args.self.now.pairs)
in_map g c =
    let tree = c.in-Some.ensures.back.1 in
    let t = c.self.inside.tree.pairs in
    let m = entries c.self.inside.map in
    elim c.if-is_empty.branch [
      | then-is_empty w ↦ subst (λ x. (x.tree.pairs ≡ []) × (entries x.map ≡ c.args.self.now.pairs)) (sym w.self-inside-is) (
        w.close.ensures.closed,
        w.close.ensures.pairs ∙ ap (λ z. z.pairs) tree
            ∙ all_in_tree t m c.args.self.now.pairs (ap (λ e. e.pairs) c.self.view_is) (c.is_empty.ensures.0 w.if-is_empty.true),
      )
      | else-is_empty w ↦
          (let pairs = ap (λ e. e.pairs) c.self.view_is in
          let all = all_in_map g.K.Ord.cmp t m c.args.self.now.pairs c.is_empty.result c.self.invariant pairs w.if-is_empty.false c.is_empty.ensures in
          subst (λ x. (x.tree.pairs ≡ []) × (entries x.map ≡ c.args.self.now.pairs)) (sym w.self-inside-is) (ap (λ z. z.pairs) tree ∙ all.0, all.1))
    ]

pub invariant_of-self-2 : goal.invariant_of-self-2
invariant_of-self-2 g c = let none = (in_map g c).0 in (subst (λ t. IsAscending g.K.Ord.cmp t) (sym none) tt, inl none)

pub returns-clause-put : goal.returns-clause-put
returns-clause-put g c =
    put_in_map g.K.Ord.cmp c.put_asked.result c.args.self.now.pairs (c.args.key, c.args.value) (c.in-Some.key, c.in-Some.value)
    c.if-is_empty.self-inside.tree.pairs (entries c.if-is_empty.self-inside.map) (entries c.put_asked.new.self) c.in-Some.ensures.back.0 (in_map g c).1
    (in_map g c).0 c.put_asked.ensures.put

pub returns-clause-unchanged : goal.returns-clause-unchanged
returns-clause-unchanged g c =
    same_in_map g.K.Ord.cmp c.put_asked.result c.args.self.now.pairs (c.args.key, c.args.value) (c.in-Some.key, c.in-Some.value)
    c.if-is_empty.self-inside.tree.pairs c.if-is_empty.self-inside.map c.put_asked.new.self (in_map g c).0 (in_map g c).1 c.put_asked.ensures.unchanged

pub returns-clause-new_key : goal.returns-clause-new_key
returns-clause-new_key g c =
    still_new g.K.Ord.cmp c.put_asked.result c.args.self.now.pairs (c.args.key, c.args.value) (c.in-Some.key, c.in-Some.value)
    (entries c.if-is_empty.self-inside.map) c.in-Some.ensures.back.0 (in_map g c).1 c.put_asked.ensures.new_key

pub returns-clause-error : goal.returns-clause-error
returns-clause-error g c =
    same_refusal g.K.Ord.cmp c.put_asked.result c.args.self.now.pairs (c.args.key, c.args.value) (c.in-Some.key, c.in-Some.value)
    (entries c.if-is_empty.self-inside.map) (in_map g c).1 c.put_asked.ensures.error

pub returns-in_default-clause-open : goal.returns-in_default-clause-open
returns-in_default-clause-open g c none all = ap (λ e. e.closed) c.self.view_is ∙ none

pub returns-then-is_after-clause-open : goal.returns-then-is_after-clause-open
returns-then-is_after-clause-open g c none all = ap (λ e. e.closed) c.self.view_is ∙ none

pub returns-in_default-clause-at_most : goal.returns-in_default-clause-at_most
returns-in_default-clause-at_most g c none all = let more = load_grows (length c.args.self.now.pairs) in omega (arith, more)

pub returns-then-is_after-clause-at_most : goal.returns-then-is_after-clause-at_most
returns-then-is_after-clause-at_most g c none all =
    subst (λ l. c.push_after.new.asked.requests + load_requests (length l) ≤ c.args.asked.now.requests + load_requests (length l + 1)) (in_tree g c)
    c.push_after.ensures.at_most

-- an item that comes after all is put into the tree
not_after : (g : given.Over) (c : goal.After-put_asked g) → c.args.self.now.closed ≡ 0
    → AllByRecursion (λ e. g.K.Ord.cmp e.0 c.args.key ≡ Less) c.args.self.now.pairs → ⊥
not_after g c none all =
    let b = c.in-Some.ensures.back in
    let t = after_in_tree g.K.Ord.cmp c.self.inside.tree c.put_if_after.new.self c.self.inside.map c.args.self.now (c.args.key, c.args.value)
    (c.in-Some.key, c.in-Some.value) b.1 b.0 c.self.view_is none all in
    false≢true (sym c.if-is_after.false ∙ c.is_after.ensures.told t.0 t.1)

pub returns-clause-open : goal.returns-clause-open
returns-clause-open g c none all = absurd (not_after g c none all)

pub returns-clause-at_most : goal.returns-clause-at_most
returns-clause-at_most g c none all = absurd (not_after g c none all)
