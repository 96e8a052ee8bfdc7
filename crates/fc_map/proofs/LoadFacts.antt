-- Items that are put into a map or gathered.
use Rattle.std.proofs.Common.{◌≡◌, List, [], ◌∷◌, ◌++◌, None, Result, Ok, Err, length, refl, sym, ap, subst, ◌∙◌, append_assoc, append-nil}
use Rattle.std.specs.Prelude.{IfOk, IfErr, OnOk}
use Rattle.std.specs.declared.cmp.Ordering.{Ordering}
use Rattle.fc_base.specs.declared.try_reserve_error.TryReserveError.{TryReserveError}
use Rattle.fc_base.specs.Extended.{extended, IsExtendedUpTo}
use Rattle.fc_base.specs.Growth.{MayGrowRefuse}
use Rattle.fc_base.specs.OneKey.{put}
use Rattle.fc_base.specs.Parts.{at}
use Rattle.fc_tree_append.proofs.StableLaws.{extended_more}
use Rattle.fc_map.specs.BulkLoad.{Loading, IsLoaded}
use Rattle.fc_map.proofs.ExtendFacts.{up_to}

module _ {K V : Type 0} (cmp : K → K → Ordering) where
  extended_both : (s front back : List (K × V)) → extended cmp (extended cmp s front) back ≡ extended cmp s (front ++ back)
  extended_both s [] back = refl
  extended_both s (e ∷ front) back = extended_both (put cmp s e.0 e.1) front back

  -- All are put in, and none is gathered.
  pub all_loaded : (old items : List (K × V)) (new : Loading K V) → new.gathered ≡ [] → new.placed ≡ extended cmp old items → IsLoaded cmp old items new
  all_loaded old items new none is = record { front = items; parts = sym (append-nil items) ∙ ap (λ l. items ++ l) (sym none); put_in = is }

  -- Where none is gathered, those before an item made what it is put into.
  pub none_before : (old placed items : List (K × V)) → placed ≡ old → items ≡ [] → placed ≡ extended cmp old items
  none_before old placed items is none = is ∙ ap (extended cmp old) (sym none)

  -- One item more is put in, and none is gathered.
  pub one_loaded : (old items mid : List (K × V)) (item : K × V) (new : Loading K V) → mid ≡ extended cmp old items → new.gathered ≡ []
      → new.placed ≡ put cmp mid item.0 item.1 → IsLoaded cmp old (items ++ item ∷ []) new
  one_loaded old items mid item new is none put_in =
      all_loaded old (items ++ item ∷ []) new none (extended_more cmp old items mid new.placed item.0 item.1 is put_in)

  module _ (r : Result (Unit {0}) TryReserveError) (old items mid : List (K × V)) (item given : K × V) (is : mid ≡ extended cmp old items)
      (same : given ≡ item) where
    -- What a call that puts one in answers,
    pub one_if_ok : (new : Loading K V) → new.gathered ≡ [] → IfOk r (λ _. new.placed ≡ put cmp mid given.0 given.1)
        → OnOk r (IsLoaded cmp old (items ++ item ∷ []) new)
    one_if_ok new none h = go r h
      where
        go : (r : Result (Unit {0}) TryReserveError) → IfOk r (λ _. new.placed ≡ put cmp mid given.0 given.1)
            → OnOk r (IsLoaded cmp old (items ++ item ∷ []) new)
        go (Ok x) h = one_loaded old items mid item new is none (h ∙ ap (λ i. put cmp mid i.0 i.1) same)
        go (Err e) h = h

    -- and where it is refused.
    pub one_if_err : (new : List (K × V)) → IfErr r (λ _. new ≡ mid) → IfErr r (λ _. at cmp mid given.0 ≡ None) → IfErr r (λ e. MayGrowRefuse (length mid) e)
        → IfErr r (λ e. (rest : List (K × V)) → IsExtendedUpTo cmp old ((items ++ item ∷ []) ++ rest) new e)
    one_if_err new h n m = go r h n m
      where
        go : (r : Result (Unit {0}) TryReserveError) → IfErr r (λ _. new ≡ mid) → IfErr r (λ _. at cmp mid given.0 ≡ None)
            → IfErr r (λ e. MayGrowRefuse (length mid) e) → IfErr r (λ e. (rest : List (K × V)) → IsExtendedUpTo cmp old ((items ++ item ∷ []) ++ rest) new e)
        go (Ok x) h n m = h
        go (Err e) h n m = λ rest. subst (λ s. IsExtendedUpTo cmp old ((items ++ item ∷ []) ++ rest) s e) (sym h)
            (up_to cmp old items mid item e is (ap (λ i. at cmp mid i.0) (sym same) ∙ n) m rest)

  -- One of those before an item was refused.
  pub refused_before : (old items done new : List (K × V)) (item : K × V) (e : TryReserveError) → done ≡ items
      → ((rest : List (K × V)) → IsExtendedUpTo cmp old (done ++ rest) new e) → (rest : List (K × V))
      → IsExtendedUpTo cmp old ((items ++ item ∷ []) ++ rest) new e
  refused_before old items done new item e same h rest =
      subst (λ l. IsExtendedUpTo cmp old l new e) (ap (λ l. l ++ item ∷ rest) same ∙ sym (append_assoc items (item ∷ []) rest)) (h (item ∷ rest))

  -- A refusal that was told of equal lists.
  pub refused_over : (r : Result (Unit {0}) TryReserveError) (old now items done new : List (K × V)) → now ≡ old → done ≡ items
      → IfErr r (λ e. (rest : List (K × V)) → IsExtendedUpTo cmp now (done ++ rest) new e)
      → IfErr r (λ e. (rest : List (K × V)) → IsExtendedUpTo cmp old (items ++ rest) new e)
  refused_over r old now items done new is same h =
      subst (λ s. IfErr r (λ e. (rest : List (K × V)) → IsExtendedUpTo cmp s (items ++ rest) new e)) is
      (subst (λ l. IfErr r (λ e. (rest : List (K × V)) → IsExtendedUpTo cmp now (l ++ rest) new e)) same h)

  -- None is put in, and all are gathered.
  pub all_gathered : (old items : List (K × V)) (new : Loading K V) → new.placed ≡ old → new.gathered ≡ items → IsLoaded cmp old items new
  all_gathered old items new is all = record { front = []; parts = sym all; put_in = is }

  module _ (old items : List (K × V)) (mid : Loading K V) (d : IsLoaded cmp old items mid) where
    -- More items come.
    pub loaded_more : (more : List (K × V)) (new : Loading K V) → IsLoaded cmp mid.placed (mid.gathered ++ more) new → IsLoaded cmp old (items ++ more) new
    loaded_more more new t = record {
      front = d.front ++ t.front;
      parts = ap (λ l. l ++ more) d.parts ∙ append_assoc d.front mid.gathered more ∙ ap (λ l. d.front ++ l) t.parts
          ∙ sym (append_assoc d.front t.front new.gathered);
      put_in = t.put_in ∙ ap (λ l. extended cmp l t.front) d.put_in ∙ extended_both old d.front t.front;
    }

    -- Those that are gathered are put in.
    pub all_put : (new : List (K × V)) → new ≡ extended cmp mid.placed mid.gathered → new ≡ extended cmp old items
    all_put new is =
        is ∙ ap (λ l. extended cmp l mid.gathered) d.put_in ∙ extended_both old d.front mid.gathered ∙ ap (extended cmp old) (sym d.parts)

    -- One of those that are gathered, or that come after them, is refused.
    pub stopped_at : (more new : List (K × V)) (e : TryReserveError) → IsExtendedUpTo cmp mid.placed (mid.gathered ++ more) new e
        → IsExtendedUpTo cmp old (items ++ more) new e
    stopped_at more new e s = record {
      front = d.front ++ s.front;
      item = s.item;
      rest = s.rest;
      taken = ap (λ l. l ++ more) d.parts ∙ append_assoc d.front mid.gathered more ∙ ap (λ l. d.front ++ l) s.taken
          ∙ sym (append_assoc d.front s.front (s.item ∷ s.rest));
      put_in = s.put_in ∙ ap (λ l. extended cmp l s.front) d.put_in ∙ extended_both old d.front s.front;
      new_key = s.new_key;
      error = s.error;
    }

    -- The same at an item that comes next.
    pub stopped_after : (item : K × V) (new : List (K × V)) (e : TryReserveError)
        → ((rest : List (K × V)) → IsExtendedUpTo cmp mid.placed ((mid.gathered ++ item ∷ []) ++ rest) new e)
        → (rest : List (K × V)) → IsExtendedUpTo cmp old ((items ++ item ∷ []) ++ rest) new e
    stopped_after item new e s rest =
        subst (λ l. IsExtendedUpTo cmp old l new e) (sym (append_assoc items (item ∷ []) rest))
        (stopped_at (item ∷ rest) new e (subst (λ l. IsExtendedUpTo cmp mid.placed l new e) (append_assoc mid.gathered (item ∷ []) rest) (s rest)))
