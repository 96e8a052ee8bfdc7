-- Entries that are handed over one after another, until the costs of the others are within a limit.
use Rattle.std.proofs.Common.{◌≡◌, ℕ, ◌+◌, ◌-◌, ◌<◌, ◌≤◌, cond, List, [], ◌∷◌, ◌++◌, Option, refl, sym, ap, ◌∙◌, subst, arith, append_assoc}
use Rattle.std.proofs.lemmas.Bool.{lt-leb}
use Rattle.std.proofs.lemmas.List.{append-nil, map-append}
use Rattle.std.specs.Option.{option_to_list}
use Rattle.fc_cache.specs.declared.held.Held.{Held}
use Rattle.fc_cache.specs.Entries.{total_cost, evicted_within, rest_within, pairs_of}
use Rattle.fc_cache.specs.Handed.{HandsInTurn}
use Rattle.fc_cache.proofs.Costs.{total_cons, rest_enough, none_evicted}

module _ {F P : Type 0} (R : F → P → F → Type 0) where
  -- What is handed over in two parts is handed over.
  hands_on : (ps qs : List P) (f g h : F) → HandsInTurn R f ps g → HandsInTurn R g qs h → HandsInTurn R f (ps ++ qs) h
  hands_on [] qs f g h one two = subst (λ e. HandsInTurn R e qs h) one two
  hands_on (p ∷ ps) qs f g h (e, called, rest) two = (e, called, hands_on ps qs e g h rest two)

pairs_append : {K V : Type 0} (xs ys : List (K × Held V)) → pairs_of (xs ++ ys) ≡ pairs_of xs ++ pairs_of ys
pairs_append = map-append (λ e. (e.0, e.1.value))

module _ {F K V : Type 0} (R : F → K × V → F → Type 0) where
  -- What was replaced is handed over, and then what is gone.
  pub handed_both : (replaced found : Option (K × Held V)) (gone : List (K × Held V)) (f g h : F) → replaced ≡ found
      → HandsInTurn R f (pairs_of (option_to_list replaced)) g → HandsInTurn R g (pairs_of gone) h → HandsInTurn R f (pairs_of (option_to_list found ++ gone)) h
  handed_both replaced found gone f g h same one two =
      subst (λ l. HandsInTurn R f l h) (sym (pairs_append (option_to_list replaced) gone) ∙ ap (λ o. pairs_of (option_to_list o ++ gone)) same)
      (hands_on R (pairs_of (option_to_list replaced)) (pairs_of gone) f g h one two)

  -- Of the others some are gone, and the calls with these took f to f'; and some are left, which cost this much, before those that stay.
  pub record Evicting (limit : ℕ) (others stay : List (K × Held V)) (f : F) (es : List (K × Held V)) (used : ℕ) (f' : F) : Type 0 where
    pub gone : List (K × Held V)
    pub left : List (K × Held V)
    pub is : es ≡ left ++ stay
    pub cost : used ≡ total_cost left
    pub rest : rest_within limit left ≡ rest_within limit others
    pub evicted : gone ++ evicted_within limit left ≡ evicted_within limit others
    pub handed : HandsInTurn R f (pairs_of gone) f'

  module _ (limit : ℕ) (others stay : List (K × Held V)) (f : F) where
    pub begun : (es : List (K × Held V)) (used : ℕ) → es ≡ others ++ stay → used ≡ total_cost others → Evicting limit others stay f es used f
    begun es used is cost = record { gone = []; left = others; is = is; cost = cost; rest = refl; evicted = refl; handed = refl }

    none_left : (left : List (K × Held V)) (used : ℕ) → limit < used → [] ≡ left ++ stay → used ≡ total_cost left → ⊥
    none_left [] used over is cost = omega arith
    none_left (x ∷ xs) used over is cost = cc

    pub never_none : (es : List (K × Held V)) (used : ℕ) (g : F) → limit < used → es ≡ [] → Evicting limit others stay f es used g → ⊥
    never_none es used g over none v = none_left v.left used over (sym none ∙ v.is) v.cost

    -- The first that is left.
    record First (e : K × Held V) (es left : List (K × Held V)) (used : ℕ) : Type 0 where
      after : List (K × Held V)
      within : e.1.cost ≤ used
      is : es ≡ after ++ stay
      cost : used - e.1.cost ≡ total_cost after
      rest : rest_within limit after ≡ rest_within limit left
      evicted : e ∷ evicted_within limit after ≡ evicted_within limit left

    first_left : (e : K × Held V) (es left : List (K × Held V)) (used : ℕ) → limit < used → e ∷ es ≡ left ++ stay → used ≡ total_cost left
        → First e es left used
    first_left e es [] used over is cost = absurd (omega arith)
    first_left e es (x ∷ xs) used over is cost =
        let same : x ≡ e = cc in
        let all : used ≡ e.1.cost + total_cost xs = cost ∙ total_cons x xs ∙ ap (λ y. y.1.cost + total_cost xs) same in
        let above : limit < total_cost (x ∷ xs) = omega arith in
        let off = lt-leb (total_cost (x ∷ xs)) limit above in
        record {
          after = xs;
          within = omega arith;
          is = cc;
          cost = omega arith;
          rest = sym (ap (λ b. cond b (x ∷ xs) (rest_within limit xs)) off);
          evicted = ap (λ y. y ∷ evicted_within limit xs) (sym same) ∙ sym (ap (λ b. cond b [] (x ∷ evicted_within limit xs)) off);
        }

    pub within_all : (e : K × Held V) (before es : List (K × Held V)) (used : ℕ) (g : F) → limit < used → before ≡ e ∷ es
        → Evicting limit others stay f before used g → e.1.cost ≤ used
    within_all e before es used g over is v = (first_left e es v.left used over (sym is ∙ v.is) v.cost).within

    pub one_more : (e : K × Held V) (before es : List (K × Held V)) (used : ℕ) (g h : F) → limit < used → before ≡ e ∷ es
        → Evicting limit others stay f before used g → R g (e.0, e.1.value) h → Evicting limit others stay f es (used - e.1.cost) h
    one_more e before es used g h over is v called =
        let first = first_left e es v.left used over (sym is ∙ v.is) v.cost in
        record {
          gone = v.gone ++ e ∷ [];
          left = first.after;
          is = first.is;
          cost = first.cost;
          rest = first.rest ∙ v.rest;
          evicted = append_assoc v.gone (e ∷ []) (evicted_within limit first.after) ∙ ap (λ l. v.gone ++ l) first.evicted ∙ v.evicted;
          handed = subst (λ l. HandsInTurn R f l h) (sym (pairs_append v.gone (e ∷ [])))
              (hands_on R (pairs_of v.gone) ((e.0, e.1.value) ∷ []) f g h v.handed (h, called, refl));
        }

    module _ (es : List (K × Held V)) (used : ℕ) (g : F) (within : used ≤ limit) (v : Evicting limit others stay f es used g) where
      fits : total_cost v.left ≤ limit
      fits = omega (arith, v.cost)

      pub ended : (es ≡ rest_within limit others ++ stay) × (used ≡ total_cost (rest_within limit others))
      ended =
          let kept = sym (rest_enough limit v.left fits) ∙ v.rest in
          (v.is ∙ ap (λ l. l ++ stay) kept, v.cost ∙ ap total_cost kept)

      pub handed_all : HandsInTurn R f (pairs_of (evicted_within limit others)) g
      handed_all =
          let all = sym (append-nil v.gone) ∙ ap (λ l. v.gone ++ l) (sym (none_evicted limit v.left fits)) ∙ v.evicted in
          subst (λ l. HandsInTurn R f (pairs_of l) g) all v.handed
