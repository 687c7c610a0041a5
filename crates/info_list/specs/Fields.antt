-- The fields that the items of lists are, and a map of fields that grows.
use Rattle.std.specs.Prelude.{◌≡◌, ℕ, List, [], ◌∷◌, ◌++◌, map, if◌then◌else◌}
use Rattle.std.specs.Str.{bytes_eq}
use Rattle.std.specs.List.{flat_map}
use Rattle.part_tree.specs.Fields.{values}
use Rattle.part_tree.specs.Names.{info_ids}
use Rattle.part_tree.specs.declared.field.FieldName.{FieldName}
use Rattle.part_tree.specs.declared.field.FieldName.TheVariants.{Info}
use Rattle.part_tree.specs.declared.fields.Entry.{Entry}
use Rattle.carrier_model.specs.Info.{one_of}
use Rattle.field_model.specs.Fields.{FieldMap, plain}
use Rattle.info_list.specs.declared.InfoItem.{InfoItem}

-- the values of a map stand behind those that were there
abbrev pub Grows : List Entry → List Entry → FieldMap → Type 0
Grows old new f = (n : FieldName) → values new n ≡ values old n ++ f n

-- only items of INFO lists are fields
abbrev pub infos_alone : (List ℕ → List (List ℕ)) → FieldMap
infos_alone f (Info id) = map plain (f id.0)
infos_alone f _ = []

-- the value of a name in an item, where its identifier is a field's
abbrev pub item_value : List ℕ → InfoItem → List (List ℕ)
item_value id i = if bytes_eq id i.id.0 then (if one_of info_ids i.id.0 then i.raw ∷ [] else []) else []

-- the fields in items
abbrev pub items_held : List InfoItem → FieldMap
items_held is = infos_alone (λ id. flat_map (item_value id) is)
