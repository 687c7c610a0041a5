-- The fields before the items of an edit are laid: bext made or raised where an item is of it.
use Rattle.std.specs.Prelude.{ℕ, List, [], ◌∷◌, Bool, Option, Some, None, if◌then◌else◌}
use Rattle.std.specs.List.{list_any}
use Rattle.part_tree.specs.declared.field.FieldName.TheVariants.{Bext}
use Rattle.part_tree.specs.declared.field.Value.{Value}
use Rattle.field_model.specs.Fields.{FieldMap, plain, version_of}
use Rattle.field_model.specs.Update.{RawItem, is_bext, made, needed, raised_values}

-- whether some item is of bext
abbrev pub names_bext : List RawItem → Bool
names_bext e = list_any (λ i. is_bext i.name) e

abbrev pub prepared : List RawItem → FieldMap → FieldMap
prepared e f (Bext field) = if names_bext e then raised_values (needed e) (version_of f) field (made f field) else f (Bext field)
prepared e f name = f name

-- the value of these bytes, or what there was
abbrev pub laid_over : Option (List ℕ) → List Value → List Value
laid_over None vs = vs
laid_over (Some raw) vs = plain raw ∷ []
