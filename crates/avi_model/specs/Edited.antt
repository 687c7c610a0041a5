-- The fields of an AVI file, and the new file after an edit of them.
use Rattle.std.specs.Prelude.{ℕ, List, [], ◌∷◌, map, Option, option_map, if◌then◌else◌}
use Rattle.std.specs.List.{flat_map}
use Rattle.part_tree.specs.Names.{info_ids}
use Rattle.part_tree.specs.declared.field.EditItem.{EditItem}
use Rattle.part_tree.specs.declared.field.FieldName.{FieldName}
use Rattle.part_tree.specs.declared.field.FieldName.TheVariants.{Info}
use Rattle.part_tree.specs.declared.field.Value.{Value}
use Rattle.field_model.specs.Fields.{FieldMap, plain}
use Rattle.field_model.specs.Update.{RawItem, raw_items}
use Rattle.carrier_model.specs.Lists.{list_values}
use Rattle.carrier_model.specs.Info.{one_of, info, info_items}
use Rattle.avi_model.specs.Avi.{avi_of}
use Rattle.avi_model.specs.NewFile.{Items, edited_file}

-- the bodies of the INFO items of a name, over all lists of the first form
abbrev pub info_values : List ℕ → List ℕ → List (List ℕ)
info_values b id = list_values info info_items id (avi_of b).children

-- the fields of an AVI file
abbrev pub fields : List ℕ → FieldMap
fields b (Info id) = map plain (info_values b id.0)
fields b name = []

-- what an item does to the lists: it sets or removes an item of an INFO identifier
abbrev pub info_item : FieldName → Option Value → Items
info_item (Info id) value = if one_of info_ids id.0 then record { name = id.0; value = option_map (λ (v : Value). v.raw) value } ∷ [] else []
info_item name value = []

-- what items do to the lists
abbrev pub info_edit : List RawItem → Items
info_edit e = flat_map (λ (i : RawItem). info_item i.name i.value) e

-- what the items of an edit that have an effect do to the lists
abbrev pub changes : List ℕ → List EditItem → Items
changes o e = info_edit (raw_items (fields o) e)

-- the new file
abbrev pub new_file : List ℕ → List EditItem → List ℕ
new_file o e = edited_file o (changes o e)
