-- Fields that a file can have: bext whole or not at all, each of its values as long as its range; each value of a key with its type and locale.
use Rattle.std.specs.Prelude.{◌≡◌, ℕ, ◌≤◌, List, [], ◌∷◌, length, ◌⊎◌, Option, Some}
use Rattle.std.specs.List.{AllByRecursion}
use Rattle.part_tree.specs.declared.field.BextField.{BextField}
use Rattle.part_tree.specs.declared.field.FieldName.{FieldName}
use Rattle.part_tree.specs.declared.field.FieldName.TheVariants.{Bext, Info, Whole, User, Key, Stream}
use Rattle.part_tree.specs.declared.field.Value.{Value}
use Rattle.field_model.specs.Body.{FillsRange}
use Rattle.field_model.specs.Fields.{FieldMap}
use Rattle.field_model.specs.Update.{RawItem}

-- a field of bext has one value, which fills its range
abbrev pub HasOne : FieldMap → BextField → Type 0
HasOne f field = (v : Value) × (f (Bext field) ≡ v ∷ []) × FillsRange field v.raw

-- all names of bext are there, or none
abbrev pub BextIsWhole : FieldMap → Type 0
BextIsWhole f = ((field : BextField) → HasOne f field) ⊎ ((field : BextField) → f (Bext field) ≡ [])

-- a value of a key begins with its type and its locale, four bytes each (QuickTime File Format, value atom)
abbrev pub HasKeyHead : Value → Type 0
HasKeyHead v = 8 ≤ length v.raw

pub record IsLawful (f : FieldMap) : Type 0 where
  pub bext : BextIsWhole f
  pub keys : (name : List ℕ) → AllByRecursion HasKeyHead (f (Key name))

-- bytes that a name can have
abbrev pub FillsName : FieldName → List ℕ → Type 0
FillsName (Bext field) raw = FillsRange field raw
FillsName (Info id) raw = Unit {0}
FillsName (Whole id) raw = Unit {0}
FillsName (User id) raw = Unit {0}
FillsName (Key name) raw = Unit {0}
FillsName (Stream n) raw = Unit {0}

-- an item of a key lays a type and a locale, four bytes each, before its bytes
abbrev pub FitsKey : FieldName → Option Value → Type 0
FitsKey (Key name) (Some v) = HasKeyHead v
FitsKey _ value = Unit {0}

-- the same of each item
abbrev pub FitKeys : List RawItem → Type 0
FitKeys e = AllByRecursion (λ i. FitsKey i.name i.value) e
