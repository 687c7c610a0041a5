-- The fields of an AVI file as they are read: the items of one list after the other.
use Rattle.std.specs.Prelude.{◌≡◌, ℕ, List, [], drop, Result}
use Rattle.std.specs.declared.result.Result.TheVariants.{Ok, Err}
use Rattle.std.specs.List.{flat_map, AllByRecursion}
use Rattle.part_tree.specs.Fields.{values}
use Rattle.part_tree.specs.declared.field.BextField.{BextField}
use Rattle.part_tree.specs.declared.field.FieldName.TheVariants.{Bext, Key}
use Rattle.part_tree.specs.declared.fields.Entry.{Entry}
use Rattle.part_tree.specs.declared.names.Span.{Span}
use Rattle.part_tree.specs.declared.part.Part.{Part}
use Rattle.part_tree.specs.declared.why.ReadFault.{ReadFault}
use Rattle.part_tree.specs.declared.why.ReadFault.TheVariants.{Why, Depot, Memory}
use Rattle.container_model.specs.Chunk.{ends}
use Rattle.container_model.specs.Items as items
use Rattle.carrier_model.specs.Info.{info_items}
use Rattle.container_model.specs.Written.{slice}
use Rattle.field_model.specs.Fields.{FieldMap}
use Rattle.info_list.specs.Fields.{Grows, infos_alone}
use Rattle.info_list.specs.Info.{items_run}
use Rattle.avi_file.specs.Walk.{chosen, is_items}

-- the items of a list at a range, which begins with its type
abbrev pub behind_info : List ℕ → Span → List ℕ
behind_info b s = drop 4 (slice b s.at s.len)

-- its fields
abbrev pub list_held : List ℕ → Span → FieldMap
list_held b s = infos_alone (λ id. items.values info_items id (items_run (behind_info b s)).chunks)

-- the items are read to their end
abbrev pub ListEnds : List ℕ → Span → Type 0
ListEnds b s = (items_run (behind_info b s)).stop ≡ ends

-- what is answered of a list: its fields stand behind those that were there. It is refused only where it isn't whole.
abbrev pub ReadsList : List ℕ → Span → List Entry → List Entry → Result Unit ReadFault → Type 0
ReadsList b s old new (Ok u) = Grows old new (list_held b s)
ReadsList b s old new (Err (Why w)) = ListEnds b s → ⊥
ReadsList b s old new (Err Depot) = Unit {0}
ReadsList b s old new (Err Memory) = Unit {0}

-- the fields of lists, one behind the other
abbrev pub lists_held : List ℕ → List Span → FieldMap
lists_held b ss n = flat_map (λ s. list_held b s n) ss

-- the bodies of the lists of fields
abbrev pub infos_of : List Part → List Span
infos_of ps = chosen (λ p. is_items p.role) ps

-- what is answered of all lists of fields
abbrev pub ReadsLists : List ℕ → List Span → List Entry → List Entry → Result Unit ReadFault → Type 0
ReadsLists b ss old new (Ok u) = Grows old new (lists_held b ss)
ReadsLists b ss old new (Err (Why w)) = AllByRecursion (ListEnds b) ss → ⊥
ReadsLists b ss old new (Err Depot) = Unit {0}
ReadsLists b ss old new (Err Memory) = Unit {0}

-- items of INFO lists and names of streams alone are there
pub record OnlyTexts (es : List Entry) : Type 0 where
  pub no_bext : (field : BextField) → values es (Bext field) ≡ []
  pub no_keys : (name : List ℕ) → values es (Key name) ≡ []

-- no refusal of the file
abbrev pub IsNoWhy : ReadFault → Type 0
IsNoWhy (Why w) = ⊥
IsNoWhy Depot = Unit {0}
IsNoWhy Memory = Unit {0}
