-- The items of an edit: no field twice, no empty text, and each name one that a text names.
use Rattle.std.specs.Prelude.{◌≡◌, ℕ, suc, List, [], ◌∷◌, ◌++◌, length, Bool, false, ◌==◌, is_some, if◌then◌else◌, Option, Some, None, IsTrue}
use Rattle.std.specs.List.{list_any, AllByRecursion}
use Rattle.part_tree.specs.declared.field.Change.{Change}
use Rattle.part_tree.specs.declared.field.Change.TheVariants.{Set, Remove}
use Rattle.part_tree.specs.declared.field.EditItem.{EditItem}
use Rattle.part_tree.specs.declared.field.FieldName.{FieldName}
use Rattle.part_tree.specs.Names.{IsFieldName, same_name}
use Rattle.field_model.specs.Texts.{name_text}
use Rattle.field_model.specs.Update.{RawItem}

-- a name that some text names
abbrev pub IsNamed : FieldName → Type 0
IsNamed name = IsTrue (is_some (name_text name))

abbrev pub AreNamed : List EditItem → Type 0
AreNamed items = AllByRecursion (λ i. IsNamed i.name) items

-- whether some item names a field
abbrev pub names_one : FieldName → List EditItem → Bool
names_one name items = list_any (λ i. same_name i.name name) items

abbrev pub is_empty_set : Change → Bool
is_empty_set (Set text) = length text == 0
is_empty_set Remove = false

-- what is wrong with the first faulty item: an earlier one names its field, or it sets an empty text
pub data Wrong : Type 0 where
  twice : ℕ → Wrong
  empty : ℕ → Wrong

-- the first faulty item, by its number from n on, behind items that are sound
abbrev pub wrong_from : ℕ → List EditItem → List EditItem → Option Wrong
wrong_from n seen [] = None
wrong_from n seen (i ∷ items) =
    if names_one i.name seen then Some (twice n) else (if is_empty_set i.change then Some (empty n) else wrong_from (suc n) (seen ++ i ∷ []) items)

abbrev pub wrong : List EditItem → Option Wrong
wrong items = wrong_from 1 [] items

-- sound items: each named, not empty, and of a field that no later one names
abbrev pub AreSound : List EditItem → Type 0
AreSound [] = Unit {0}
AreSound (i ∷ items) = IsNamed i.name × (is_empty_set i.change ≡ false) × (names_one i.name items ≡ false) × AreSound items

-- raw items that are of fields
abbrev pub AreOfFields : List RawItem → Type 0
AreOfFields items = AllByRecursion (λ i. IsFieldName i.name) items
