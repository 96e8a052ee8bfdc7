-- Texts that are appended part by part.
use Rattle.std.proofs.Common.{◌≡◌, ℕ, ◌<◌, ◌≤◌, suc, List, ◌++◌, length, take, drop, get_or, refl, sym, ap, subst, ◌∙◌, arith, append_assoc, length-append}
use Rattle.std.specs.List.{flat_map}
use Rattle.std.proofs.Math.Seq.{drop-cons}
use Rattle.std.proofs.lemmas.Grind.{flat_map-append}
use Rattle.std.proofs.lemmas.List.{take-append-le, length-take, take-append-drop}
use Rattle.fc_lines.specs.Texts.{IsBegun}

module _ (old new a b : List ℕ) where
  -- what was to come after a beginning
  pub more_begun : IsBegun old a new → IsBegun old (a ++ b) new
  more_begun (least, is) =
      let short : length new ≤ length (old ++ a) = omega (arith, ap length is, length-take (length new) (old ++ a)) in
      (least, is ∙ sym (take-append-le (length new) (old ++ a) b short) ∙ ap (take (length new)) (append_assoc old a b))

  -- what stands before a beginning
  pub later_begun : (mid : List ℕ) → mid ≡ old ++ a → IsBegun mid b new → IsBegun old (a ++ b) new
  later_begun mid was (least, is) = (
    omega (arith, ap length was, length-append old a, least),
    is ∙ ap (λ l. take (length new) (l ++ b)) was
        ∙ ap (take (length new)) (append_assoc old a b),
  )

-- the texts of items, of which that at place i is begun
module _ {X : Type 0} (f : X → List ℕ) (xs : List X) (i : ℕ) (d : X) (h : i < length xs) where
  parted : flat_map f xs ≡ flat_map f (take i xs) ++ (f (get_or xs i d) ++ flat_map f (drop (suc i) xs))
  parted = ap (flat_map f) (sym (take-append-drop i xs)) ∙ flat_map-append f (take i xs) (drop i xs)
      ∙ ap (λ l. flat_map f (take i xs) ++ flat_map f l) (drop-cons xs i d h)

  pub item_begun : (old mid new : List ℕ) → mid ≡ old ++ flat_map f (take i xs) → IsBegun mid (f (get_or xs i d)) new → IsBegun old (flat_map f xs) new
  item_begun old mid new was b = subst (λ l. IsBegun old l new) (sym parted)
      (later_begun old new (flat_map f (take i xs)) _ mid was (more_begun mid new (f (get_or xs i d)) (flat_map f (drop (suc i) xs)) b))

  -- after words, and before others
  pub item_begun_between : (old mid new words after : List ℕ) → mid ≡ (old ++ words) ++ flat_map f (take i xs) → IsBegun mid (f (get_or xs i d)) new
      → IsBegun old (words ++ (flat_map f xs ++ after)) new
  item_begun_between old mid new words after was b =
      let on = old ++ words in
      later_begun old new words (flat_map f xs ++ after) on refl (more_begun on new (flat_map f xs) after (item_begun on mid new was b))
