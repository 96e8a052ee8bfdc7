-- A list extended by items, one after another.
use Rattle.std.proofs.Common.{◌≡◌, List, [], ◌∷◌, ◌++◌, Some, None, length, inl, inr, refl, sym, ap, subst, ◌∙◌, arith}
use Rattle.std.proofs.Common.{append_assoc, append-nil, length-append, Bool, false, IsTrue, Option, Result, Ok, Err, ◌↔◌}
use Rattle.std.specs.Result.{IfOk, IfErr}
use Rattle.std.specs.Prelude.{IfSome}
use Rattle.std.proofs.lemmas.Bool.{iff_false}
use Rattle.std.proofs.lemmas.List.{nil_from_length}
use Rattle.std.specs.Cmp.{IsTotalOrder}
use Rattle.std.specs.List.{AllByRecursion}
use Rattle.std.specs.Ordering.{is_lt}
use Rattle.std.specs.declared.cmp.Ordering.TheVariants.{Less}
use Rattle.fc_base.specs.Ascending.{IsAscending}
use Rattle.fc_tree_node.proofs.Lists.{all_back}
use Rattle.std.specs.declared.cmp.Ordering.{Ordering}
use Rattle.fc_base.specs.declared.try_reserve_error.TryReserveError.{TryReserveError}
use Rattle.fc_base.specs.Extended.{extended, IsExtendedUpTo}
use Rattle.fc_base.specs.Growth.{MayGrowRefuse}
use Rattle.fc_base.specs.OneKey.{put}
use Rattle.fc_base.specs.Parts.{at}
use Rattle.fc_tree_build.specs.Built.{Grown, IsAfterLast}
use Rattle.fc_tree_build.proofs.Ends.{less_if, less_then}
use Rattle.fc_tree_build.proofs.OrderedFacts.{after, put_after, ascending_after}
use Rattle.fc_map.specs.Entries.{Map, entries}
use Rattle.fc_map.specs.BulkInsert.{Inserting, inserting, IsBulkInsert}

module _ {K V : Type 0} (cmp : K → K → Ordering) where
  -- An item with a new key was refused, and what stands after it was not looked at.
  pub up_to : (s front new : List (K × V)) (item : K × V) (e : TryReserveError) → new ≡ extended cmp s front → at cmp new item.0 ≡ None
      → MayGrowRefuse (length new) e → (rest : List (K × V)) → IsExtendedUpTo cmp s ((front ++ item ∷ []) ++ rest) new e
  up_to s front new item e is absent error rest = record {
    front = front;
    item = item;
    rest = rest;
    taken = append_assoc front (item ∷ []) rest;
    put_in = is;
    new_key = absent;
    error = error;
  }

  -- The same where no more than the refused item was taken.
  pub stopped_at_last : (s front new : List (K × V)) (item : K × V) (e : TryReserveError) → new ≡ extended cmp s front → at cmp new item.0 ≡ None
      → MayGrowRefuse (length new) e → (stop : IsExtendedUpTo cmp s (front ++ item ∷ []) new e) × (stop.rest ≡ [])
  stopped_at_last s front new item e is absent error = (
    record { front = front; item = item; rest = []; taken = refl; put_in = is; new_key = absent; error = error },
    refl,
  )

  -- Whether a key is greater than all, as it compares with the last one.
  pub is_after_all : (s front : List (K × V)) (last : K × V) (k : K) (b : Bool) → IsTotalOrder cmp → s ≡ front ++ last ∷ [] → IsAscending cmp s
      → b ≡ is_lt (cmp last.0 k) → IsTrue b ↔ AllByRecursion (λ e. cmp e.0 k ≡ Less) s
  is_after_all s front last k b total e a is = (
    λ h. after cmp s front last k total e a (less_if _ _ is h),
    λ all. less_then _ _ is (all_back (λ e. cmp e.0 k ≡ Less) front (last ∷ []) (subst (AllByRecursion (λ e. cmp e.0 k ≡ Less)) e all)).0,
  )

  -- ---- a tree that is open, and a map beside it

  -- Where the tree has a pair, it has all.
  pub none_beside : (t m front : List (K × V)) (last : K × V) → IsBulkInsert cmp t m → t ≡ front ++ last ∷ [] → m ≡ []
  none_beside t m front last (a, inl none) e = absurd (let n = length-append front (last ∷ []) in let z = ap length (sym none ∙ e) in omega arith)
  none_beside t m front last (a, inr none) e = none

  -- A pair whose key is greater than the last one is put after all.
  pub put_last : (t m new : List (K × V)) (k : K) (v : V) → IsTotalOrder cmp → IsBulkInsert cmp t m → IsAfterLast cmp t k → new ≡ t ++ (k, v) ∷ []
      → (new ++ m ≡ put cmp (t ++ m) k v) × IsBulkInsert cmp new m
  put_last t m new k v total x b e =
      let none = none_beside t m b.0 b.1 x b.2 in
      let all = after cmp t b.0 b.1 k total b.2 x.0 b.3 in (
        rw none (append-nil new ∙ e ∙ sym (put_after cmp t k v all).0 ∙ ap (λ z. put cmp z k v) (sym (append-nil t))),
        (ascending_after cmp t new k v total e all x.0, inr none),
      )

  -- What a tree that may have taken the pair tells of both.
  pub put_if_last : (r : Option (K × V)) (t new : Grown K V) (m : List (K × V)) (pair : K × V) → IsTotalOrder cmp → IsBulkInsert cmp t.pairs m
      → (r ≡ None → IsAfterLast cmp t.pairs pair.0) → (r ≡ None → new.pairs ≡ t.pairs ++ pair ∷ []) → IfSome r (λ back. (back ≡ pair) × (new ≡ t))
      → IsBulkInsert cmp new.pairs m × (r ≡ None → new.pairs ++ m ≡ put cmp (t.pairs ++ m) pair.0 pair.1)
  put_if_last None t new m pair total x b e h = let all = put_last t.pairs m new.pairs pair.0 pair.1 total x (b refl) (e refl) in (all.1, λ _. all.0)
  put_if_last (Some y) t new m pair total x b e h = (subst (λ g. IsBulkInsert cmp g.pairs m) (sym h.1) x, λ no. absurd cc)

  -- A map that has a pair has all.
  pub all_closed : (t m : List (K × V)) → IsBulkInsert cmp t m → (length m ≡ 0 → ⊥) → t ≡ []
  all_closed t m (a, inl none) some = none
  all_closed t m (a, inr none) some = absurd (some (ap length none))

  -- All pairs stand in the map once it has one,
  none_open : (t m : List (K × V)) (b : Bool) → IsBulkInsert cmp t m → b ≡ false → IsTrue b ↔ (m ≡ []) → t ≡ []
  none_open t m b (a, inl none) unset is = none
  none_open t m b (a, inr none) unset is = absurd (iff_false is unset none)

  pub all_in_map : (t m s : List (K × V)) (b : Bool) → IsBulkInsert cmp t m → t ++ m ≡ s → b ≡ false → IsTrue b ↔ (m ≡ []) → (t ≡ []) × (m ≡ s)
  all_in_map t m s b x e unset is = let none = none_open t m b x unset is in (none, sym (ap (λ z. z ++ m) none) ∙ e)

-- and in the tree where the map has none.
pub all_in_tree : {X : Type 0} (t m s : List X) → t ++ m ≡ s → m ≡ [] → t ≡ s
all_in_tree t m s e none = sym (append-nil t) ∙ ap (λ z. t ++ z) (sym none) ∙ e

-- ---- what a call that put a pair into one of them tells of both

module _ {K V : Type 0} (cmp : K → K → Ordering) (r : Result (Unit {0}) TryReserveError) (s : List (K × V)) (pair now : K × V) where
  pub put_in_tree : (t m new : List (K × V)) → now ≡ pair → t ≡ s → m ≡ [] → IfOk r (λ _. new ≡ put cmp t now.0 now.1)
      → IfOk r (λ _. new ++ m ≡ put cmp s pair.0 pair.1)
  put_in_tree t m new p e none h = go r h
    where
      go : (r : Result (Unit {0}) TryReserveError) → IfOk r (λ _. new ≡ put cmp t now.0 now.1) → IfOk r (λ _. new ++ m ≡ put cmp s pair.0 pair.1)
      go (Ok x) h = ap (λ z. new ++ z) none ∙ append-nil new ∙ h ∙ ap (λ q. put cmp t q.0 q.1) p ∙ ap (λ z. put cmp z pair.0 pair.1) e
      go (Err x) h = tt

  pub put_in_map : (t m new : List (K × V)) → now ≡ pair → m ≡ s → t ≡ [] → IfOk r (λ _. new ≡ put cmp m now.0 now.1)
      → IfOk r (λ _. t ++ new ≡ put cmp s pair.0 pair.1)
  put_in_map t m new p e none h = go r h
    where
      go : (r : Result (Unit {0}) TryReserveError) → IfOk r (λ _. new ≡ put cmp m now.0 now.1) → IfOk r (λ _. t ++ new ≡ put cmp s pair.0 pair.1)
      go (Ok x) h = ap (λ z. z ++ new) none ∙ h ∙ ap (λ q. put cmp m q.0 q.1) p ∙ ap (λ z. put cmp z pair.0 pair.1) e
      go (Err x) h = tt

  pub same_in_tree : (t new : Grown K V) (m : List (K × V)) → t.pairs ++ m ≡ s → IfErr r (λ _. new ≡ t) → IfErr r (λ _. new.pairs ++ m ≡ s)
  same_in_tree t new m e h = go r h
    where
      go : (r : Result (Unit {0}) TryReserveError) → IfErr r (λ _. new ≡ t) → IfErr r (λ _. new.pairs ++ m ≡ s)
      go (Ok x) h = tt
      go (Err x) h = ap (λ z. z.pairs ++ m) h ∙ e

  pub same_in_map : {Z : Type 0} (t : List (K × V)) (m new : Map K V Z) → t ≡ [] → entries m ≡ s → IfErr r (λ _. new ≡ m) → IfErr r (λ _. t ++ entries new ≡ s)
  same_in_map t m new none e h = go r h
    where
      go : (r : Result (Unit {0}) TryReserveError) → IfErr r (λ _. new ≡ m) → IfErr r (λ _. t ++ entries new ≡ s)
      go (Ok x) h = tt
      go (Err x) h = ap (λ z. z ++ entries new) none ∙ ap entries h ∙ e

  pub still_new : (m : List (K × V)) → now ≡ pair → m ≡ s → IfErr r (λ _. at cmp m now.0 ≡ None) → IfErr r (λ _. at cmp s pair.0 ≡ None)
  still_new m p e h = subst (λ z. IfErr r (λ _. at cmp z pair.0 ≡ None)) e (subst (λ q. IfErr r (λ _. at cmp m q.0 ≡ None)) p h)

  pub same_refusal : (m : List (K × V)) → m ≡ s → IfErr r (λ e. MayGrowRefuse (length m) e) → IfErr r (λ e. MayGrowRefuse (length s) e)
  same_refusal m e h = subst (λ z. IfErr r (λ e. MayGrowRefuse (length z) e)) e h

module _ {K V : Type 0} where
  -- The pair came back, and all stay.
  pub back_beside : (r : Option (K × V)) (t new : Grown K V) (m : List (K × V)) (s : Inserting K V) (pair : K × V) → inserting t.pairs m ≡ s
      → IfSome r (λ back. (back ≡ pair) × (new ≡ t)) → IfSome r (λ back. (back ≡ pair) × (inserting new.pairs m ≡ s))
  back_beside None t new m s pair e h = h
  back_beside (Some x) t new m s pair e h = (h.0, ap (λ g. inserting g.pairs m) h.1 ∙ e)

  -- Items are put into the map beside a tree of no pair, or come back.
  pub merged_beside : {E : Type 0} (cmp : K → K → Ordering) (r : Result (Unit {0}) E) (t m new s items : List (K × V)) → t ≡ [] → m ≡ s
      → IfOk r (λ _. new ≡ extended cmp m items) → IfOk r (λ _. t ++ new ≡ extended cmp s items)
  merged_beside cmp (Ok x) t m new s items none e h = ap (λ z. z ++ new) none ∙ h ∙ ap (λ z. extended cmp z items) e
  merged_beside cmp (Err b) t m new s items none e h = h

  pub kept_beside : {E Z : Type 0} (P : E → Type 0) (r : Result (Unit {0}) E) (t : List (K × V)) (m new : Map K V Z) (s : Inserting K V)
      → inserting t (entries m) ≡ s → IfErr r (λ b. (new ≡ m) × P b) → IfErr r (λ b. (inserting t (entries new) ≡ s) × P b)
  kept_beside P (Ok x) t m new s e h = h
  kept_beside P (Err b) t m new s e h = (ap (λ z. inserting t (entries z)) h.0 ∙ e, h.1)

  -- Where the map has no pair, all stand in the tree, and a key that is after all is after these.
  pub after_in_tree : {Z : Type 0} (cmp : K → K → Ordering) (t now : Grown K V) (m : Map K V Z) (s : Inserting K V) (pair given : K × V) → now ≡ t
      → given ≡ pair → inserting t.pairs (entries m) ≡ s → s.closed ≡ 0 → AllByRecursion (λ e. cmp e.0 pair.0 ≡ Less) s.pairs
      → (entries m ≡ []) × AllByRecursion (λ e. cmp e.0 given.0 ≡ Less) now.pairs
  after_in_tree cmp t now m s pair given is same e none all =
      let no = nil_from_length (entries m) (ap (λ i. i.closed) e ∙ none) in
      let tree = ap (λ g. g.pairs) is ∙ all_in_tree t.pairs (entries m) s.pairs (ap (λ i. i.pairs) e) no in (
        no,
        subst (λ q. AllByRecursion (λ e. cmp e.0 q.0 ≡ Less) now.pairs) (sym same)
            (subst (λ l. AllByRecursion (λ e. cmp e.0 pair.0 ≡ Less) l) (sym tree) all),
      )
