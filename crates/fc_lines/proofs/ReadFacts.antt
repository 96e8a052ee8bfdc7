-- How a list is read, one item more at a time.
use Rattle.std.proofs.Common.{◌≡◌, List, [], ◌∷◌, ◌++◌, Option, Some, None, refl}
use Rattle.std.specs.Option.{option_map}
use Rattle.fc_lines.specs.Grammar.{◌>>=◌, all_read, some_read}

-- what was read so far, and what the rest is read as
abbrev pub Reads : {A B : Type 0} → (A → Option B) → List A → List B → List A → Type 0
Reads f all read rest = all_read f all ≡ option_map (λ ys. read ++ ys) (all_read f rest)

module _ {A B : Type 0} (f : A → Option B) where
  -- none were read
  pub reads_nothing : (all : List A) → Reads f all [] [] → None ≡ some_read f all
  reads_nothing [] r = refl
  reads_nothing (x ∷ all) r = not_empty (f x) (all_read f all) r
    where
      not_empty : (o : Option B) (o' : Option (List B)) → (o >>= λ y. option_map (λ ys. y ∷ ys) o') ≡ Some [] → None ≡ some_read f (x ∷ all)
      not_empty None o' e = absurd cc
      not_empty (Some y) None e = absurd cc
      not_empty (Some y) (Some ys) e = absurd cc
