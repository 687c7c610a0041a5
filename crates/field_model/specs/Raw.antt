-- The bytes that a text is laid as, and none where a field can't have the text (this project's own).
use Rattle.std.specs.Prelude.{ℕ, ◌-◌, List, [], ◌∷◌, ◌++◌, length, replicate, Bool, ◌||◌, ◌==◌, nat_le, if◌then◌else◌, Option, Some, None, option_map, codes}
use Rattle.std.specs.Str.{bytes_eq}
use Rattle.me_bytes.specs.Bytes.{le_bytes, be_bytes}
use Rattle.part_tree.specs.declared.field.BextField.{BextField}
use Rattle.part_tree.specs.declared.field.FieldName.{FieldName}
use Rattle.part_tree.specs.declared.field.FieldName.TheVariants.{Bext, Info, Whole, User, Key, Stream}
use Rattle.part_tree.specs.declared.field.Form.{Form}
use Rattle.part_tree.specs.declared.field.Form.TheVariants.{Text, Date, Time, Count, Version, Umid, Loudness, Reserved}
use Rattle.part_tree.specs.Names.{bext_row}
use Rattle.field_model.specs.Bext.{form_of, width}
use Rattle.field_model.specs.Dates.{is_date, is_time, spelled_date, spelled_time}
use Rattle.field_model.specs.Numbers.{count_of, loudness_of, is_hex, hex_bytes}

-- a text fits its range; the coding history has no length of its own
abbrev pub fits_width : BextField → List ℕ → Bool
fits_width field text = (bext_row field == 14) || nat_le (length text) (width field)

-- the text, and zeros to the length of its range
abbrev pub padded : BextField → List ℕ → List ℕ
padded field text = text ++ replicate (width field - length text) 0

-- the bytes of a text in a field of `bext` of a form
abbrev pub raw_form : Form → BextField → List ℕ → Option (List ℕ)
raw_form Text field text = if fits_width field text then Some (padded field text) else None
raw_form Date field text = if is_date text then Some (spelled_date text) else None
raw_form Time field text = if is_time text then Some (spelled_time text) else None
raw_form Count field text = option_map (le_bytes 8) (count_of text)
raw_form Version field text = None
raw_form Umid field text = if is_hex 128 text then Some (hex_bytes text) else None
raw_form Loudness field text = option_map (le_bytes 2) (loudness_of text)
raw_form Reserved field text = None

-- the bytes of a text in a whole chunk
abbrev pub raw_whole : List ℕ → List ℕ → Option (List ℕ)
raw_whole id text = if bytes_eq id (codes "MD5 ") then (if is_hex 32 text then Some (hex_bytes text) else None) else Some text

-- what stands before the text of a key: type 1, which is UTF-8, and locale 0 (QuickTime File Format, value atom)
abbrev pub key_head : List ℕ
key_head = be_bytes 4 1 ++ be_bytes 4 0

-- a text of INFO and the name of a stream end with one 0; a key's text has its type and locale before it; a user text and
-- a whole chunk are the text alone
abbrev pub raw_of : FieldName → List ℕ → Option (List ℕ)
raw_of (Bext field) text = raw_form (form_of field) field text
raw_of (Info id) text = Some (text ++ 0 ∷ [])
raw_of (Whole id) text = raw_whole id.0 text
raw_of (User id) text = Some text
raw_of (Key name) text = Some (key_head ++ text)
raw_of (Stream n) text = Some (text ++ 0 ∷ [])
