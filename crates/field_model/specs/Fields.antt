-- The fields of a file, as a finite map from names to their values in file order; a name that isn't there has none.
use Rattle.std.specs.Prelude.{ℕ, List, [], ◌∷◌}
use Rattle.me_bytes.specs.Bytes.{le}
use Rattle.part_tree.specs.declared.field.BextField.TheVariants.{Version}
use Rattle.part_tree.specs.declared.field.FieldName.{FieldName}
use Rattle.part_tree.specs.declared.field.FieldName.TheVariants.{Bext}
use Rattle.part_tree.specs.declared.field.Value.{Value}

-- the values of each name
abbrev pub FieldMap : Type 0
FieldMap = FieldName → List Value

-- a value without a language
abbrev pub plain : List ℕ → Value
plain raw = record { lang = 0; raw = raw }

-- the bytes of the first value, if there is one
abbrev pub first_raw : List Value → List ℕ
first_raw [] = []
first_raw (v ∷ vs) = v.raw

-- the version that bext tells, and 0 where there is no bext
abbrev pub version_of : FieldMap → ℕ
version_of f = le (first_raw (f (Bext Version)))
