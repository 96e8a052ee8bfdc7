use Rattle.std.proofs.Common.{◌≡◌, ◌+◌, ◌<◌, ◌≤◌, [], ◌∷◌, ◌++◌, List, length, sym, refl, ap, subst, ◌∙◌, arith}
use Rattle.std.specs.Prelude.{OnOk, IfErr}
use denote.Param.{param}
use Rattle.fc_base.specs.Extended.{extended, IsExtendedUpTo}
use Rattle.fc_map.specs.BulkLoad.{IsLoaded, IsOpen, loading}
use Rattle.fc_map.proofs.BulkInsertSizes.{bulk_insert_fits}
use Rattle.fc_tree_build.specs.Loads.{load_requests}
use Rattle.fc_tree_build.proofs.LoadFacts.{load_grows}
use Rattle.fc_tree_build.proofs.OrderedFacts.{put_after}
use Rattle.fc_base.specs.OneKey.{put}
use Rattle.std.proofs.lemmas.Result.{on_ok_weaker}
use Rattle.fc_map.proofs.LoadFacts.{none_before, one_loaded, one_if_ok, one_if_err}
use Rattle.fc_map.proofs.OpenFacts.{put_if_open, after_same}
use Rattle.fc_map.proofs.map.bulk_load.BulkLoad.try_put.Given as given
use Rattle.fc_map.proofs.map.bulk_load.BulkLoad.try_put.Goals as goal

pub gather-requires : goal.gather-requires
gather-requires g c =
    (bulk_insert_fits (param 0 g.row.K) (param 1 g.row.V) g.row.A g.K.Ord g.K.PartialEq g.K.PartialOrd g.A.Allocator g.met.A.Handle.small, c.if-self-eq0.true)

pub put_if_after-requires : goal.put_if_after-requires
put_if_after-requires g c =
    bulk_insert_fits (param 0 g.row.K) (param 1 g.row.V) g.row.A g.K.Ord g.K.PartialEq g.K.PartialOrd g.A.Allocator g.met.A.Handle.small

pub put_singly-requires : goal.put_singly-requires
put_singly-requires g c =
    (bulk_insert_fits (param 0 g.row.K) (param 1 g.row.V) g.row.A g.K.Ord g.K.PartialEq g.K.PartialOrd g.A.Allocator g.met.A.Handle.small, omega arith)

pub returns-then-self-eq0-clause-taken : goal.returns-then-self-eq0-clause-taken
returns-then-self-eq0-clause-taken g c =
    subst (λ l. OnOk c.gather.result (IsLoaded g.K.Ord.cmp l.placed (l.gathered ++ (c.args.key, c.args.value) ∷ [])
    (loading c.gather.new.placed c.gather.new.gathered.items c.gather.new.single))) c.self.view_is c.gather.ensures.taken

pub returns-then-self-eq0-clause-error : goal.returns-then-self-eq0-clause-error
returns-then-self-eq0-clause-error g c =
    subst (λ l. IfErr c.gather.result (λ e. (rest : List (g.row.K.Denot × g.row.V.Denot))
    → IsExtendedUpTo g.K.Ord.cmp l.placed ((l.gathered ++ (c.args.key, c.args.value) ∷ []) ++ rest) c.gather.new.placed.pairs e)) c.self.view_is
    c.gather.ensures.error

pub returns-in_default-clause-taken : goal.returns-in_default-clause-taken
returns-in_default-clause-taken g c =
    let none = c.self.invariant (omega arith) in
    let before = none_before g.K.Ord.cmp c.args.self.now.placed c.self.inside.placed.pairs c.args.self.now.gathered (ap (λ l. l.placed) c.self.view_is)
    (sym (ap (λ l. l.gathered) c.self.view_is) ∙ none) in
    one_loaded g.K.Ord.cmp c.args.self.now.placed c.args.self.now.gathered c.self.inside.placed.pairs (c.args.key, c.args.value)
    (loading c.put_if_after.new.self c.self.inside.gathered.items c.self.inside.single) before none (c.in_default.ensures.put refl)

-- no item is gathered
none : (g : given.Over) (c : goal.After-put_singly g) → c.self.inside.gathered.items ≡ []
none g c = c.self.invariant (omega arith)

-- the pairs are those that the map had
before : (g : given.Over) (c : goal.After-put_singly g) → c.put_if_after.new.self.pairs ≡ extended g.K.Ord.cmp c.args.self.now.placed c.args.self.now.gathered
before g c =
    none_before g.K.Ord.cmp c.args.self.now.placed c.put_if_after.new.self.pairs c.args.self.now.gathered
    (ap (λ e. e.pairs) c.in-Some.ensures.back.1 ∙ ap (λ l. l.placed) c.self.view_is) (sym (ap (λ l. l.gathered) c.self.view_is) ∙ none g c)

pub returns-clause-taken : goal.returns-clause-taken
returns-clause-taken g c =
    one_if_ok g.K.Ord.cmp c.put_singly.result c.args.self.now.placed c.args.self.now.gathered c.put_if_after.new.self.pairs (c.args.key, c.args.value)
    (c.in-Some.key, c.in-Some.value) (before g c) c.in-Some.ensures.back.0
    (loading c.put_singly.new.placed c.self.inside.gathered.items c.put_singly.new.single) (none g c) c.put_singly.ensures.put

pub returns-clause-error : goal.returns-clause-error
returns-clause-error g c =
    one_if_err g.K.Ord.cmp c.put_singly.result c.args.self.now.placed c.args.self.now.gathered c.put_if_after.new.self.pairs (c.args.key, c.args.value)
    (c.in-Some.key, c.in-Some.value) (before g c) c.in-Some.ensures.back.0 c.put_singly.new.placed.pairs c.put_singly.ensures.unchanged
    c.put_singly.ensures.new_key c.put_singly.ensures.error

-- An open load has items that go in one by one.
not_open : (g : given.Over) (c : goal.After-gather g) → IsOpen c.args.self.now → ⊥
not_open g c opened = let same = ap (λ l. l.single) c.self.view_is in omega (arith, opened.1, same, c.if-self-eq0.true)

pub returns-then-self-eq0-clause-put : goal.returns-then-self-eq0-clause-put
returns-then-self-eq0-clause-put g c = on_ok_weaker c.gather.result (λ _. λ opened all. absurd (not_open g c opened)) c.gather.ensures.taken

pub returns-then-self-eq0-clause-open : goal.returns-then-self-eq0-clause-open
returns-then-self-eq0-clause-open g c opened all = absurd (not_open g c opened)

pub returns-then-self-eq0-clause-at_most : goal.returns-then-self-eq0-clause-at_most
returns-then-self-eq0-clause-at_most g c opened all = absurd (not_open g c opened)

pub returns-in_default-clause-put : goal.returns-in_default-clause-put
returns-in_default-clause-put g c opened all =
    c.in_default.ensures.put refl ∙ ap (λ l. put g.K.Ord.cmp l.placed c.args.key c.args.value) c.self.view_is
    ∙ (put_after g.K.Ord.cmp c.args.self.now.placed c.args.key c.args.value all).0

pub returns-in_default-clause-open : goal.returns-in_default-clause-open
returns-in_default-clause-open g c opened all =
    (c.in_default.ensures.closed ∙ ap (λ l. l.closed) c.self.view_is ∙ opened.0, subst (λ n. 0 < n) (sym (ap (λ l. l.single) c.self.view_is)) opened.1)

pub returns-in_default-clause-at_most : goal.returns-in_default-clause-at_most
returns-in_default-clause-at_most g c opened all = let more = load_grows (length c.args.self.now.placed) in omega (arith, more)

-- the pairs and the item are those that were there and came back
same : (g : given.Over) (c : goal.After-put_singly g) → c.put_if_after.new.self.pairs ≡ c.args.self.now.placed
same g c = ap (λ e. e.pairs) c.in-Some.ensures.back.1 ∙ ap (λ l. l.placed) c.self.view_is

-- the tree is open still
still_open : (g : given.Over) (c : goal.After-put_singly g) → IsOpen c.args.self.now → c.put_if_after.new.self.closed ≡ 0
still_open g c opened = ap (λ e. e.closed) c.in-Some.ensures.back.1 ∙ ap (λ l. l.closed) c.self.view_is ∙ opened.0

pub returns-clause-put : goal.returns-clause-put
returns-clause-put g c =
    put_if_open g.K.Ord.cmp (IsOpen c.args.self.now) c.put_singly.result c.args.self.now.placed c.put_if_after.new.self.pairs c.put_singly.new.placed.pairs
    (c.args.key, c.args.value) (c.in-Some.key, c.in-Some.value) (same g c) c.in-Some.ensures.back.0 c.put_singly.ensures.put

pub returns-clause-open : goal.returns-clause-open
returns-clause-open g c opened all =
    let none = still_open g c opened in
    let after = after_same g.K.Ord.cmp c.args.self.now.placed c.put_if_after.new.self.pairs (c.args.key, c.args.value) (c.in-Some.key, c.in-Some.value)
    (same g c) c.in-Some.ensures.back.0 all in (
      c.put_singly.ensures.open none after,
      subst (λ n. 0 < n) (sym (c.put_singly.ensures.single none ∙ ap (λ l. l.single) c.self.view_is)) opened.1,
    )

pub returns-clause-at_most : goal.returns-clause-at_most
returns-clause-at_most g c opened all =
    let after = after_same g.K.Ord.cmp c.args.self.now.placed c.put_if_after.new.self.pairs (c.args.key, c.args.value) (c.in-Some.key, c.in-Some.value)
    (same g c) c.in-Some.ensures.back.0 all in
    subst (λ l. c.put_singly.new.asked.requests + load_requests (length l) ≤ c.args.asked.now.requests + load_requests (length l + 1)) (same g c)
    (c.put_singly.ensures.at_most (still_open g c opened) after)
