-- How keys stand to what they are searched by.
use Rattle.std.specs.Prelude.{◌≡◌, ℕ, List, string_bytes}
use Rattle.std.specs.Ordering.{nat_cmp}
use Rattle.std.specs.Cmp.Lexicographic.{slice_cmp}
use Rattle.std.specs.declared.string.String.{String}
use Rattle.std.specs.declared.vec.Vec.{Vec}
use Rattle.std.specs.declared.cmp.Ordering.{Ordering}
use Rattle.std.specs.declared.cmp.Ordering.TheVariants.{Less, Equal, Greater}

-- `order x q` says how the key x stands to the query q: the keys below q come first, then those equal to it, then those above it.
pub record IsQueryOrder {K Q : Type 0} (cmp : K → K → Ordering) (order : K → Q → Ordering) : Type 0 where
  -- each key stands to a query as to a key that is equal to it
  pub same : (q : Q) (x y : K) → order x q ≡ Equal → order y q ≡ cmp y x
  -- a key below one that is below the query is below the query
  pub lower : (q : Q) (x y : K) → cmp x y ≡ Less → order y q ≡ Less → order x q ≡ Less
  -- a key above one that is equal to the query is above the query
  pub after : (q : Q) (x y : K) → cmp x y ≡ Less → order x q ≡ Equal → order y q ≡ Greater
  -- a key above one that is above the query is above the query
  pub upper : (q : Q) (x y : K) → cmp x y ≡ Less → order x q ≡ Greater → order y q ≡ Greater

-- How a `String` stands to a text: by their bytes, from the first on.
abbrev pub text_order : {A : Type 0} → String A → List ℕ → Ordering
text_order s text = slice_cmp nat_cmp (string_bytes s) text

-- How a `Vec` stands to a slice: by their items, from the first on.
abbrev pub items_order : {T A : Type 0} → (T → T → Ordering) → Vec T A → List T → Ordering
items_order cmp v items = slice_cmp cmp v.items items
