-- How the code compares names: by a number, and keys by their bytes.
use Rattle.std.specs.Prelude.{◌≡◌, ℕ, ◌+◌, ◌^◌, ◌<◌, List, [], Bool, IsTrue}
use Rattle.std.specs.Ordering.{is_lt, nat_cmp}
use Rattle.std.specs.Cmp.Lexicographic.{slice_cmp}
use Rattle.part_tree.specs.declared.field.FieldName.{FieldName}
use Rattle.part_tree.specs.declared.field.FieldName.TheVariants.{Bext, Info, Whole, User, Key, Stream}
use Rattle.part_tree.specs.Keys.{is_key_name}
use Rattle.part_tree.specs.Names.{field_place}

-- whether bytes come before others: the first pair that isn't equal decides, and else the lengths do
abbrev pub by_bytes : List ℕ → List ℕ → Bool
by_bytes a b = is_lt (slice_cmp nat_cmp a b)

-- the place of a name in two parts: a number, and the bytes of a key
abbrev pub Stands : FieldName → ℕ → List ℕ → Type 0
Stands (Key name) number key = (number ≡ 36 + 2 ^ 32) × (key ≡ name) × IsTrue (is_key_name name)
Stands (Stream n) number key = (number ≡ 37 + 2 ^ 32 + n) × (key ≡ [])
Stands name number key = (number ≡ field_place name) × (number < 36 + 2 ^ 32) × (key ≡ [])
