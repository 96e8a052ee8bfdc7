use Rattle.std.proofs.Common.{List, map, inr, ◌∙◌, sym, subst, rules, arith}
use Rattle.std.specs.Iterator.{IsFinite}
use Rattle.std.specs.List.{AllZip}
use Rattle.std.proofs.lemmas.List.Elements.{length_all_zip}
use Rattle.std.proofs.lemmas.Result.{err_from_is_err_and}
use denote.Builtin.{unit}
use denote.Param.{param}
use Rattle.fc_tree_build.proofs.StackSizes.{growing_builder_fits}
use Rattle.fc_set.specs.Copied.{Lends}
use Rattle.fc_set.specs.Items.{AreAscending}
use Rattle.fc_set.proofs.ItemFacts.{ascending_keys}
use Rattle.fc_set.proofs.CopiedFacts.{filled_start, filled_more, filled_all, any_next, some_there, ascending_copies}
use Rattle.fc_set.proofs.set.copied.try_filled.Goals as goal
use Rattle.fc_base.proofs.AscendingFacts.{is_equal}

pub loop-item-init : goal.loop-item-init
loop-item-init g c =
    let e = sym c.into_iter-item-iterator.ensures.into_iter_gives in (
      subst g.I.Iterator.can_next e c.requires.ends.0,
      subst (λ w. IsFinite (g.I.Iterator.remaining w)) e c.requires.ends.1,
      λ all lends. filled_start g.I.Iterator.next_gives all g.T.TryClone.same c.new-builder.result.pairs c.into_iter-item-iterator.result
          (subst (λ w. Lends g.I.Iterator.next_gives w all) e lends) c.new-builder.ensures.pairs,
    )

pub loop-item-preserved : goal.loop-item-preserved
loop-item-preserved g c = (
  search rules,
  search rules,
  λ all lends. filled_more g.I.Iterator.next_gives all g.T.TryClone.same c.loop-item.builder.pairs c.push.new.self.pairs
      c.loop-item.item-iterator c.next.new.self c.in-Some.item c.in_ok-copy.copy tt (c.loop-item.invariant.2 all lends) c.in-Some.ensures.steps
      c.in_ok-copy.ensures c.in-Ok.ensures.pairs,
)

pub new-builder-requires : goal.new-builder-requires
new-builder-requires g c = growing_builder_fits (param 0 g.row.T) unit g.row.A g.A.Allocator g.met.A.Handle.small

pub push-requires : goal.push-requires
push-requires g c = growing_builder_fits (param 0 g.row.T) unit g.row.A g.A.Allocator g.met.A.Handle.small

pub returns-in_err-copy-clause-some : goal.returns-in_err-copy-clause-some
returns-in_err-copy-clause-some g c = λ refused all lends.
    some_there g.I.Iterator.next_gives all g.T.TryClone.same c.loop-item.builder.pairs c.loop-item.item-iterator c.next.new.self c.in-Some.item
    (c.loop-item.invariant.2 all lends) c.in-Some.ensures.steps

pub from_grown-requires : goal.from_grown-requires
from_grown-requires g c =
    let gives = c.requires.gives in
    let pairs = c.loop-item.builder.pairs in
    let copied = filled_all g.I.Iterator.next_gives gives.0 g.T.TryClone.same c.loop-item.builder.pairs c.loop-item.item-iterator c.next.new.self
    (c.loop-item.invariant.2 gives.0 gives.1) c.in-None.ensures.steps in
    let equal = λ (a : g.row.T.Denot) (b : g.row.T.Denot) (s : g.T.TryClone.same a b). is_equal (g.T.Ord.cmp a b)
    (sym (g.met.T.Ord.matches_eq a b) ∙ c.requires.equal a b s) in (
      growing_builder_fits (param 0 g.row.T) unit g.row.A g.A.Allocator g.met.A.Handle.small,
      ascending_copies g.T.Ord.cmp g.met.T.Ord.total g.T.TryClone.same equal gives.0 pairs copied gives.2,
    )

pub returns-in_err-copy-clause-error : goal.returns-in_err-copy-clause-error
returns-in_err-copy-clause-error g c =
    let p = err_from_is_err_and c.from_residual.result c.from_residual.ensures.1 in
    rw (p.1, p.2) (λ all lends. inr (any_next g.I.Iterator.next_gives all g.T.TryClone.same (λ x. g.T.TryClone.may_refuse x _) c.loop-item.builder.pairs
    c.loop-item.item-iterator c.next.new.self c.in-Some.item (c.loop-item.invariant.2 all lends) c.in-Some.ensures.steps
    c.in_err-copy.ensures))

pub returns-clause-copied : goal.returns-clause-copied
returns-clause-copied g c =
    λ all lends. subst (λ s. AllZip g.T.TryClone.same all (map (λ e. e.0) s)) (sym c.from_grown.ensures.pairs)
    (filled_all g.I.Iterator.next_gives all g.T.TryClone.same c.loop-item.builder.pairs c.loop-item.item-iterator c.next.new.self
    (c.loop-item.invariant.2 all lends) c.in-None.ensures.steps)

pub returns-clause-ascending : goal.returns-clause-ascending
returns-clause-ascending g c =
    let gives = c.requires.gives in
    let pairs = c.loop-item.builder.pairs in
    let copied = filled_all g.I.Iterator.next_gives gives.0 g.T.TryClone.same c.loop-item.builder.pairs c.loop-item.item-iterator c.next.new.self
    (c.loop-item.invariant.2 gives.0 gives.1) c.in-None.ensures.steps in
    let equal = λ (a : g.row.T.Denot) (b : g.row.T.Denot) (s : g.T.TryClone.same a b). is_equal (g.T.Ord.cmp a b)
    (sym (g.met.T.Ord.matches_eq a b) ∙ c.requires.equal a b s) in
    let ascending = ascending_copies g.T.Ord.cmp g.met.T.Ord.total g.T.TryClone.same equal gives.0 pairs copied gives.2 in
    subst (λ s. AreAscending g.T.Ord.cmp (map (λ e. e.0) s)) (sym c.from_grown.ensures.pairs) (ascending_keys g.T.Ord.cmp pairs ascending)

pub returns-clause-fits : goal.returns-clause-fits
returns-clause-fits g c = λ all lends. (
    let gives = c.requires.gives in
    let made = map (λ e. e.0) c.loop-item.builder.pairs in
    let copied = λ (of : List g.row.T.Denot) (lent : Lends g.I.Iterator.next_gives c.args.walk of). filled_all g.I.Iterator.next_gives of g.T.TryClone.same
    c.loop-item.builder.pairs c.loop-item.item-iterator c.next.new.self (c.loop-item.invariant.2 of lent) c.in-None.ensures.steps in
    let same = length_all_zip g.T.TryClone.same all made (copied all lends) in
    let theirs = length_all_zip g.T.TryClone.same gives.0 made (copied gives.0 gives.1) in
    let most = gives.3 in
    omega arith
    )
