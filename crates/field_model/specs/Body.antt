-- An edit of the body of `bext`: it is raised once, and then each item lays its bytes.
use Rattle.std.specs.Prelude.{◌≡◌, ℕ, List, [], ◌∷◌, length, Option, Some, None, ◌⊎◌}
use Rattle.std.specs.List.{AllByRecursion}
use Rattle.part_tree.specs.declared.field.BextField.{BextField}
use Rattle.part_tree.specs.declared.field.FieldName.{FieldName}
use Rattle.part_tree.specs.declared.field.FieldName.TheVariants.{Bext}
use Rattle.part_tree.specs.declared.field.Value.{Value}
use Rattle.part_tree.specs.Names.{bext_row}
use Rattle.field_model.specs.Bext.{lay_range, raised, range_of, width}
use Rattle.field_model.specs.Fields.{FieldMap, plain}
use Rattle.field_model.specs.Update.{RawItem, needed}

-- the body with what an item lays in it
abbrev pub lay_item : FieldName → Option Value → List ℕ → List ℕ
lay_item (Bext field) (Some v) body = lay_range (bext_row field) v.raw body
lay_item _ _ body = body

-- the body with what each item lays in it, in order
abbrev pub lay_items : List RawItem → List ℕ → List ℕ
lay_items [] body = body
lay_items (i ∷ e) body = lay_items e (lay_item i.name i.value body)

-- the body after an edit
abbrev pub edited_bext : List RawItem → List ℕ → List ℕ
edited_bext e body = lay_items e (raised (needed e) body)

-- bytes that fill the range of a field; the coding history takes any
abbrev pub FillsRange : BextField → List ℕ → Type 0
FillsRange field raw = (bext_row field ≡ 14) ⊎ (length raw ≡ width field)

-- an item of bext lays bytes that fill the field's range
abbrev pub FitsBext : FieldName → Option Value → Type 0
FitsBext (Bext field) None = ⊥
FitsBext (Bext field) (Some v) = (v.lang ≡ 0) × FillsRange field v.raw
FitsBext _ value = Unit {0}

-- the same of each item
abbrev pub FitBext : List RawItem → Type 0
FitBext e = AllByRecursion (λ i. FitsBext i.name i.value) e

-- the fields of bext are the ranges of a body
abbrev pub AreRanges : FieldMap → List ℕ → Type 0
AreRanges f body = (field : BextField) → f (Bext field) ≡ plain (range_of (bext_row field) body) ∷ []
