-- The text that a value shows, or none (this project's own).
use Rattle.std.specs.Prelude.{ℕ, List, length, Bool, true, false, not, ◌||◌, ◌==◌, nat_lt, if◌then◌else◌, Option, Some, None, take, drop, take_while, decimal, codes}
use Rattle.std.specs.List.{list_all, filter_map}
use Rattle.std.specs.Str.{bytes_eq}
use Rattle.me_bytes.specs.Bytes.{le, be_bytes}
use Rattle.part_tree.specs.declared.field.FieldName.{FieldName}
use Rattle.part_tree.specs.declared.field.FieldName.TheVariants.{Bext, Info, Whole, User, Key, Stream}
use Rattle.part_tree.specs.declared.field.Form.{Form}
use Rattle.part_tree.specs.declared.field.Form.TheVariants.{Text, Date, Time, Count, Version, Umid, Loudness, Reserved}
use Rattle.part_tree.specs.declared.field.Value.{Value}
use Rattle.field_model.specs.Bext.{form_of}
use Rattle.field_model.specs.Fields.{FieldMap, version_of}
use Rattle.field_model.specs.Numbers.{loudness_text, hex_text}

-- the bytes before the first 0
abbrev pub before_zero : List ℕ → List ℕ
before_zero raw = take_while (λ x. not (x == 0)) raw

-- a text, unless it is empty
abbrev pub unless_empty : List ℕ → Option (List ℕ)
unless_empty text = if length text == 0 then None else Some text

-- whether all bytes are 0
abbrev pub all_zeros : List ℕ → Bool
all_zeros raw = list_all (λ x. x == 0) raw

-- a UMID shows its hexadecimal digits where the version has it and it isn't zeros
abbrev pub shown_umid : ℕ → List ℕ → Option (List ℕ)
shown_umid version raw = if (version == 0) || all_zeros raw then None else Some (hex_text true raw)

-- a loudness shows its hundredths where the version has it and it isn't 7FFF
abbrev pub shown_loudness : ℕ → ℕ → Option (List ℕ)
shown_loudness version n = if nat_lt version 2 || (n == 32767) then None else Some (loudness_text n)

-- what a field of bext shows at a version
abbrev pub shown_form : Form → ℕ → List ℕ → Option (List ℕ)
shown_form Text version raw = unless_empty (before_zero raw)
shown_form Date version raw = unless_empty (before_zero raw)
shown_form Time version raw = unless_empty (before_zero raw)
shown_form Count version raw = Some (decimal (le raw))
shown_form Version version raw = Some (decimal (le raw))
shown_form Umid version raw = shown_umid version raw
shown_form Loudness version raw = shown_loudness version (le raw)
shown_form Reserved version raw = None

-- a checksum shows its hexadecimal digits, any other whole chunk its bytes
abbrev pub shown_whole : List ℕ → List ℕ → List ℕ
shown_whole id raw = if bytes_eq id (codes "MD5 ") then hex_text false raw else raw

-- a value of a key shows what stands behind its type and its locale, where its type is UTF-8
abbrev pub shown_key : List ℕ → Option (List ℕ)
shown_key raw = if bytes_eq (take 4 raw) (be_bytes 4 1) then Some (drop 8 raw) else None

-- what a value of a field shows, among these fields
abbrev pub shown : FieldMap → FieldName → Value → Option (List ℕ)
shown f (Bext field) value = shown_form (form_of field) (version_of f) value.raw
shown f (Info id) value = Some (before_zero value.raw)
shown f (Whole id) value = Some (shown_whole id.0 value.raw)
shown f (User id) value = Some value.raw
shown f (Key name) value = shown_key value.raw
shown f (Stream n) value = Some (before_zero value.raw)

-- the texts that a name shows, in file order
abbrev pub shown_texts : FieldMap → FieldName → List (List ℕ)
shown_texts f name = filter_map (shown f name) (f name)
