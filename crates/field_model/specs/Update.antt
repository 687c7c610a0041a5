-- What an edit makes of the fields (this project's own).
use Rattle.std.specs.Prelude.{ℕ, List, [], ◌∷◌, length, Bool, true, false, not, ◌||◌, ◌&&◌, ◌==◌, nat_le, max, filter, replicate, if◌then◌else◌, Option, Some, None, is_none, option_map}
use Rattle.std.specs.List.{filter_map, list_any, list_all}
use Rattle.std.specs.Str.{bytes_eq}
use Rattle.me_bytes.specs.Bytes.{le, le_bytes}
use Rattle.part_tree.specs.declared.field.BextField.{BextField}
use Rattle.part_tree.specs.declared.field.BextField.TheVariants.{TimeReference}
use Rattle.part_tree.specs.declared.field.BextField.TheVariants as row
use Rattle.part_tree.specs.declared.field.Change.{Change}
use Rattle.part_tree.specs.declared.field.Change.TheVariants.{Set, Remove}
use Rattle.part_tree.specs.declared.field.EditItem.{EditItem}
use Rattle.part_tree.specs.declared.field.FieldName.{FieldName}
use Rattle.part_tree.specs.declared.field.FieldName.TheVariants.{Bext, User}
use Rattle.part_tree.specs.declared.field.Form.{Form}
use Rattle.part_tree.specs.declared.field.Form.TheVariants.{Version, Umid, Loudness}
use Rattle.part_tree.specs.declared.field.Value.{Value}
use Rattle.part_tree.specs.Names.{bext_row, same_name}
use Rattle.field_model.specs.Bext.{form_of, width, blank, since, no_loudness}
use Rattle.field_model.specs.Fields.{FieldMap, plain, version_of}
use Rattle.field_model.specs.Raw.{raw_of}
use Rattle.field_model.specs.Shown.{shown}

-- ---- which items have an effect

-- the text that a name shows, where it has exactly one value
abbrev pub only_shown : FieldMap → FieldName → List Value → Option (List ℕ)
only_shown f name [] = None
only_shown f name (v ∷ []) = shown f name v
only_shown f name (v ∷ w ∷ vs) = None

-- whether two texts are there and the same
abbrev pub same_text : Option (List ℕ) → Option (List ℕ) → Bool
same_text (Some a) (Some b) = bytes_eq a b
same_text _ _ = false

-- the text that is shown for the spelling of a text
abbrev pub shown_spelled : FieldMap → FieldName → Option (List ℕ) → Option (List ℕ)
shown_spelled f name None = None
shown_spelled f name (Some raw) = shown f name (plain raw)

-- setting changes nothing where the only value shows the text, or what its spelling shows
abbrev pub shows_already : FieldMap → FieldName → List ℕ → Bool
shows_already f name text =
    same_text (only_shown f name (f name)) (Some text) || same_text (only_shown f name (f name)) (shown_spelled f name (raw_of name text))

-- a value of bext is nothing to remove where it shows nothing, or is a time reference of 0
abbrev pub is_nothing : FieldMap → BextField → Value → Bool
is_nothing f field v = is_none (shown f (Bext field) v) || ((bext_row field == bext_row TimeReference) && (le v.raw == 0))

-- removing changes something where the name has a value, and in bext where that is one to remove
abbrev pub removes : FieldMap → FieldName → List Value → Bool
removes f (Bext field) vs = not (list_all (is_nothing f field) vs)
removes f _ vs = not (length vs == 0)

-- whether a change of a name has an effect
abbrev pub changes : FieldMap → FieldName → Change → Bool
changes f name (Set text) = not (shows_already f name text)
changes f name Remove = removes f name (f name)

-- whether an item has an effect
abbrev pub has_effect : FieldMap → EditItem → Bool
has_effect f item = changes f item.name item.change

-- the items that have an effect, in order
abbrev pub effective : FieldMap → List EditItem → List EditItem
effective f e = filter (has_effect f) e

-- ---- an edit in raw bytes

-- what becomes of a name: this value, or none
pub record RawItem : Type 0 where
  pub name : FieldName
  pub value : Option Value

-- the language of a written text: 15C7, unspecified, in user data (QuickTime File Format, language codes)
abbrev pub language : FieldName → ℕ
language (User id) = 5575
language _ = 0

-- a name whose only value becomes these bytes
abbrev pub written : FieldName → List ℕ → RawItem
written name raw = record { name = name; value = Some (record { lang = language name; raw = raw }) }

-- removing a field of bext lays its blank
abbrev pub removed : FieldName → RawItem
removed (Bext field) = written (Bext field) (blank field)
removed name = record { name = name; value = None }

-- an item in raw bytes; a text that the field can't have is none
abbrev pub raw_change : FieldName → Change → Option RawItem
raw_change name (Set text) = option_map (written name) (raw_of name text)
raw_change name Remove = Some (removed name)

-- an item in raw bytes
abbrev pub raw_item : EditItem → Option RawItem
raw_item item = raw_change item.name item.change

-- the items that have an effect, in raw bytes and in order
abbrev pub raw_items : FieldMap → List EditItem → List RawItem
raw_items f e = filter_map raw_item (effective f e)

-- ---- the fields after an edit

-- a value, if there is one, as a list
abbrev pub listed : Option Value → List Value
listed None = []
listed (Some v) = v ∷ []

-- the values of a name after the items, one after the other
abbrev pub updated_values : List RawItem → FieldName → List Value → List Value
updated_values [] name vs = vs
updated_values (i ∷ e) name vs = updated_values e name (if same_name i.name name then listed i.value else vs)

-- whether a name is of `bext`
abbrev pub is_bext : FieldName → Bool
is_bext (Bext field) = true
is_bext _ = false

-- the version that a name came with
abbrev pub since_name : FieldName → ℕ
since_name (Bext field) = since field
since_name _ = 0

-- the highest version that an item's field needs
abbrev pub needed : List RawItem → ℕ
needed [] = 0
needed (i ∷ e) = max (since_name i.name) (needed e)

-- a field of bext, which is made of zeros where there is none
abbrev pub made : FieldMap → BextField → List Value
made f field = if length (f (Bext row.Version)) == 0 then plain (replicate (width field) 0) ∷ [] else f (Bext field)

-- what a raise from an old version leaves in a field: the new version, and no value in what it added
abbrev pub raised_form : Form → ℕ → ℕ → List Value → List Value
raised_form Version to old vs = plain (le_bytes 2 to) ∷ []
raised_form Umid to old vs = if old == 0 then plain (replicate 64 0) ∷ [] else vs
raised_form Loudness to old vs = if to == 2 then plain no_loudness ∷ [] else vs
raised_form _ to old vs = vs

-- the values of a field after a raise to a version
abbrev pub raised_values : ℕ → ℕ → BextField → List Value → List Value
raised_values to old field vs = if nat_le to old then vs else raised_form (form_of field) to old vs

-- the fields after raw items: bext is first made or raised once to the version that they need
abbrev pub updated : List RawItem → FieldMap → FieldMap
updated e f (Bext field) =
    if list_any (λ i. is_bext i.name) e then updated_values e (Bext field) (raised_values (needed e) (version_of f) field (made f field)) else f (Bext field)
updated e f name = updated_values e name (f name)

-- the fields after an edit
abbrev pub update : FieldMap → List EditItem → FieldMap
update f e = updated (raw_items f e) f
