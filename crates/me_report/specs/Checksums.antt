-- Checksums of the sound: those that a file stores, and the computed one (this project's own; MD5 by RFC 1321).
use Rattle.std.specs.Prelude.{ℕ, List, [], ◌∷◌, ◌++◌, Bool, not, Option, Some, None, codes, if◌then◌else◌}
use Rattle.std.specs.List.{flat_map, list_any}
use Rattle.std.specs.Str.{bytes_eq}
use Rattle.part_tree.specs.Letters.{four}
use Rattle.part_tree.specs.declared.field.FieldName.{FieldName}
use Rattle.part_tree.specs.declared.field.FieldName.TheVariants.{Whole}
use Rattle.part_tree.specs.declared.field.Value.{Value}
use Rattle.field_model.specs.Fields.{FieldMap}
use Rattle.me_report.specs.Lines.{hex_line}

-- the field of the checksums that a file stores
abbrev pub stored : FieldName
stored = Whole (four (codes "MD5 "))

-- the line of a value
abbrev pub stored_line : Value → List ℕ
stored_line v = hex_line (codes "stored ") v.raw

-- a line for each value
abbrev pub stored_lines : List Value → List ℕ
stored_lines [] = codes "stored none\n"
stored_lines (v ∷ vs) = flat_map stored_line (v ∷ vs)

-- the line of the computed checksum
abbrev pub computed_line : Option (List ℕ) → List ℕ
computed_line None = codes "computed none\n"
computed_line (Some digest) = hex_line (codes "computed ") digest

-- both
abbrev pub checksum_text : FieldMap → Option (List ℕ) → List ℕ
checksum_text f computed = stored_lines (f stored) ++ computed_line computed

-- whether some value isn't this checksum
abbrev pub differs : List ℕ → List Value → Bool
differs digest vs = list_any (λ v. not (bytes_eq v.raw digest)) vs

-- one finding where a stored checksum isn't the computed one
abbrev pub finding_count : FieldMap → Option (List ℕ) → ℕ
finding_count f None = 0
finding_count f (Some digest) = if differs digest (f stored) then 1 else 0
