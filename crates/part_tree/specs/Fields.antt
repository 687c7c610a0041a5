-- The fields of a file as a list: one entry for each name that has a value, in field order, with its values in file order.
use Rattle.std.specs.Prelude.{◌≡◌, ◌<◌, ◌≤◌, ℕ, suc, List, [], ◌∷◌, ◌++◌, length, map, false, if◌then◌else◌, Option, Some, None}
use Rattle.part_tree.specs.declared.field.FieldName.{FieldName}
use Rattle.part_tree.specs.declared.field.Value.{Value}
use Rattle.part_tree.specs.declared.fields.Entry.{Entry}
use Rattle.part_tree.specs.Names.{IsFieldName, field_place, same_name}

-- the values of a name; none where it isn't there
abbrev pub values : List Entry → FieldName → List Value
values [] name = []
values (e ∷ es) name = if same_name e.name name then e.values else values es name

-- the names that have a value, in field order
abbrev pub names : List Entry → List FieldName
names es = map (λ e. e.name) es

-- the entries are of fields, ascend in field order from a place on, and each has a value
abbrev pub Ascends : ℕ → List Entry → Type 0
Ascends low [] = Unit {0}
Ascends low (e ∷ es) = (low ≤ field_place e.name) × IsFieldName e.name × (0 < length e.values) × Ascends (suc (field_place e.name)) es

-- entries of fields in field order, each with a value
abbrev pub IsMap : List Entry → Type 0
IsMap es = Ascends 0 es

-- a value is the last of its name, and all other names keep theirs
pub record Adds (old new : List Entry) (name : FieldName) (value : Value) : Type 0 where
  pub last : values new name ≡ values old name ++ value ∷ []
  pub others : (other : FieldName) → same_name name other ≡ false → values new other ≡ values old other

-- a name gets these values, and all other names keep theirs
pub record Replaces (old new : List Entry) (name : FieldName) (vs : List Value) : Type 0 where
  pub only : values new name ≡ vs
  pub others : (other : FieldName) → same_name name other ≡ false → values new other ≡ values old other

-- the values that there are where there is one, and where there is none
abbrev pub listed : Option Value → List Value
listed None = []
listed (Some v) = v ∷ []
