-- How long the samples of a track are, by what a box says of them.
use Rattle.std.specs.Prelude.{◌≡◌, ◌≢◌, ℕ, List, drop}
use Rattle.example_boxes.specs.Layout.{number32, table_of}
use Rattle.example_boxes.specs.declared.tables.Sizes.{Sizes}
use Rattle.example_boxes.specs.declared.tables.Sizes.TheVariants.{Same, Each}

-- After flags stands a length for all and how many there are; where that length is 0, a table follows in place of the number.
abbrev pub AreSizes : List ℕ → Sizes → Type 0
AreSizes content (Same count size) = (size ≢ 0) × (size ≡ number32 (drop 4 content)) × (count ≡ number32 (drop 4 (drop 4 content)))
AreSizes content (Each table) = (number32 (drop 4 content) ≡ 0) × (table.items ≡ table_of (drop 4 (drop 4 content)))
