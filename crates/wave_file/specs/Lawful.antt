-- The fields of `bext` in a map that is being read: none yet, or all of them (EBU Tech 3285, section 2.3).
use Rattle.std.specs.Prelude.{◌≡◌, ℕ, List, [], Bool, true, false}
use Rattle.part_tree.specs.declared.field.BextField.{BextField}
use Rattle.part_tree.specs.declared.field.FieldName.TheVariants.{Bext, Key}
use Rattle.part_tree.specs.declared.fields.Entry.{Entry}
use Rattle.part_tree.specs.Fields.{values}
use Rattle.field_model.specs.Lawful.{HasOne}

-- no field of `bext` has a value
abbrev pub HasNoBext : List Entry → Type 0
HasNoBext es = (field : BextField) → values es (Bext field) ≡ []

-- each field of `bext` has one value, which fills its range
abbrev pub HasBext : List Entry → Type 0
HasBext es = (field : BextField) → HasOne (values es) field

-- no key has a value: no chunk of a WAVE file holds keys
abbrev pub HasNoKeys : List Entry → Type 0
HasNoKeys es = (name : List ℕ) → values es (Key name) ≡ []

-- the one or the other, by whether a chunk `bext` was read
abbrev pub HasRanges : Bool → List Entry → Type 0
HasRanges true es = HasBext es
HasRanges false es = HasNoBext es
