-- A load whose items came in ascending order so far.
use Rattle.std.proofs.Common.{◌≡◌, ℕ, ◌+◌, ◌≤◌, List, [], ◌∷◌, ◌++◌, Result, Ok, Err, length, sym, ap, subst, ◌∙◌, arith, length-append}
use Rattle.std.specs.Prelude.{IfOk, IfErr, OnOk}
use Rattle.std.specs.List.{AllByRecursion}
use Rattle.std.specs.declared.cmp.Ordering.{Ordering}
use Rattle.std.specs.declared.cmp.Ordering.TheVariants.{Less}
use Rattle.fc_base.specs.declared.try_reserve_error.TryReserveError.{TryReserveError}
use Rattle.fc_base.specs.Ascending.{IsAscending}
use Rattle.fc_base.specs.OneKey.{put}
use Rattle.fc_tree_node.proofs.Lists.{all_front, all_back}
use Rattle.fc_tree_build.specs.Loads.{load_requests}
use Rattle.fc_tree_build.proofs.OrderedFacts.{put_after}
use Rattle.fc_map.specs.BulkLoad.{Loading, IsOpen}

-- A list with an item is not empty.
pub some_item : {X : Type 0} (front : List X) (x : X) (rest : List X) → [] ≡ (front ++ x ∷ []) ++ rest → ⊥
some_item front x rest e =
    let l = ap length e ∙ length-append (front ++ x ∷ []) rest in
    let m = length-append front (x ∷ []) in
    omega arith

pub err_weaker : {X E : Type 0} (r : Result X E) (P Q : E → Type 0) → ((e : E) → P e → Q e) → IfErr r P → IfErr r Q
err_weaker (Ok x) P Q f h = h
err_weaker (Err e) P Q f h = f e h

module _ {K V : Type 0} (cmp : K → K → Ordering) where
  -- A key is after all of them.
  abbrev pub IsAfterAll : List (K × V) → K → Type 0
  IsAfterAll s k = AllByRecursion (λ e. cmp e.0 k ≡ Less) s

  front_ascends : (s : List (K × V)) (item : K × V) → IsAscending cmp (s ++ item ∷ []) → IsAscending cmp s × IsAfterAll s item.0
  front_ascends [] item a = (tt, tt)
  front_ascends (e ∷ s) item a =
      let i = front_ascends s item a.1 in
      let P : K × V → Type 0 = λ y. cmp e.0 y.0 ≡ Less in
      ((all_front P s (item ∷ []) a.0, i.0), ((all_back P s (item ∷ []) a.0).0, i.1))

  -- What a call that puts a pair in tells where its key is after all.
  pub put_if_open : (X : Type 0) (r : Result (Unit {0}) TryReserveError) (s mid new : List (K × V)) (item given : K × V) → mid ≡ s → given ≡ item
      → IfOk r (λ _. new ≡ put cmp mid given.0 given.1) → OnOk r (X → IsAfterAll s item.0 → new ≡ s ++ item ∷ [])
  put_if_open X (Ok x) s mid new item given is same h =
      λ _ all. h ∙ ap (λ l. put cmp l given.0 given.1) is ∙ ap (λ q. put cmp s q.0 q.1) same ∙ (put_after cmp s item.0 item.1 all).0
  put_if_open X (Err e) s mid new item given is same h = h

  -- The same for lists and items that are equal.
  pub after_same : (s mid : List (K × V)) (item given : K × V) → mid ≡ s → given ≡ item → IsAfterAll s item.0 → IsAfterAll mid given.0
  after_same s mid item given is same all = subst (λ q. IsAfterAll mid q.0) (sym same) (subst (λ l. IsAfterAll l item.0) (sym is) all)

  -- Where the items ascend, the load is open, its pairs are the items, and few requests were made since there were so many.
  abbrev pub IsOpenSoFar : List (K × V) → Loading K V → ℕ → ℕ → Type 0
  IsOpenSoFar items load first now =
      IsAscending cmp items → IsOpen load × (load.placed ≡ items) × (now ≤ first + load_requests (length items))

  pub open_start : (load : Loading K V) (n : ℕ) → IsOpen load → load.placed ≡ [] → IsOpenSoFar [] load n n
  open_start load n opened none a = (opened, none, omega arith)

  module _ (items : List (K × V)) (item : K × V) (load : Loading K V) (first now next : ℕ) (done : IsOpenSoFar items load first now)
      (few : IsOpen load → IsAfterAll load.placed item.0 → next + load_requests (length load.placed) ≤ now + load_requests (length load.placed + 1)) where
    after_done : IsAscending cmp (items ++ item ∷ []) → IsOpen load × (load.placed ≡ items) × IsAfterAll load.placed item.0
    after_done a =
        let f = front_ascends items item a in
        let d = done f.0 in
        (d.0, d.1, subst (λ l. IsAfterAll l item.0) (sym d.1) f.1)

    -- One item more takes few requests, also where it is refused,
    pub few_more : IsAscending cmp (items ++ item ∷ []) → next ≤ first + load_requests (length (items ++ item ∷ []))
    few_more a =
        let f = front_ascends items item a in
        let d = done f.0 in
        let t = after_done a in
        let more = few t.0 t.2 in
        let m = length-append items (item ∷ []) in
        let now_more = subst (λ k. next + load_requests k ≤ now + load_requests (k + 1)) (ap length d.1) more in
        subst (λ k. next ≤ first + load_requests k) (sym m) (omega (arith, now_more, d.2))

    -- and the load stays open where it is put in.
    pub open_more : (new : Loading K V) → (IsOpen load → IsAfterAll load.placed item.0 → new.placed ≡ load.placed ++ item ∷ [])
        → (IsOpen load → IsAfterAll load.placed item.0 → IsOpen new) → IsOpenSoFar (items ++ item ∷ []) new first next
    open_more new put_in stays a =
        let t = after_done a in
        (stays t.0 t.2, put_in t.0 t.2 ∙ ap (λ l. l ++ item ∷ []) t.1, few_more a)

  -- At the end of an open load nothing is asked for.
  pub few_all : (items : List (K × V)) (load : Loading K V) (first now next : ℕ) → IsOpenSoFar items load first now → (IsOpen load → next ≡ now)
      → IsAscending cmp items → next ≤ first + load_requests (length items)
  few_all items load first now next done same a = let d = done a in omega (arith, same d.0, d.2)
