-- The names of fields as texts (this project's own).
use Rattle.std.specs.Prelude.{ℕ, ◌^◌, List, ◌∷◌, ◌++◌, decimal, take, drop, Bool, false, ◌&&◌, if◌then◌else◌, Option, Some, None, option_map, find, codes}
use Rattle.std.specs.Str.{bytes_eq}
use Rattle.part_tree.specs.declared.field.BextField.{BextField}
use Rattle.part_tree.specs.declared.field.BextField.TheVariants.{Description, Originator, OriginatorReference, OriginationDate, OriginationTime, TimeReference, Version, Umid, LoudnessValue, LoudnessRange, MaxTruePeakLevel, MaxMomentaryLoudness, MaxShortTermLoudness, Reserved, CodingHistory}
use Rattle.part_tree.specs.declared.field.FieldName.{FieldName}
use Rattle.part_tree.specs.declared.field.FieldName.TheVariants.{Bext, Info, Whole, User, Key, Stream}
use Rattle.part_tree.specs.Keys.{is_key_name}
use Rattle.part_tree.specs.Letters.{four}
use Rattle.part_tree.specs.Names.{field_names, is_field_name, is_user_type}
use Rattle.field_model.specs.Numbers.{number_below}

-- the name of a field of bext as the standard writes it; the reserved bytes have none
abbrev pub bext_text : BextField → Option (List ℕ)
bext_text Description = Some (codes "Description")
bext_text Originator = Some (codes "Originator")
bext_text OriginatorReference = Some (codes "OriginatorReference")
bext_text OriginationDate = Some (codes "OriginationDate")
bext_text OriginationTime = Some (codes "OriginationTime")
bext_text TimeReference = Some (codes "TimeReference")
bext_text Version = Some (codes "Version")
bext_text Umid = Some (codes "UMID")
bext_text LoudnessValue = Some (codes "LoudnessValue")
bext_text LoudnessRange = Some (codes "LoudnessRange")
bext_text MaxTruePeakLevel = Some (codes "MaxTruePeakLevel")
bext_text MaxMomentaryLoudness = Some (codes "MaxMomentaryLoudness")
bext_text MaxShortTermLoudness = Some (codes "MaxShortTermLoudness")
bext_text Reserved = None
bext_text CodingHistory = Some (codes "CodingHistory")

-- a whole chunk has its identifier as its name, but for `XMP` and `MD5`
abbrev pub whole_text : List ℕ → List ℕ
whole_text id = if bytes_eq id (codes "_PMX") then codes "XMP" else (if bytes_eq id (codes "MD5 ") then codes "MD5" else id)

-- the text of a name, whatever letters it has
abbrev pub text_of : FieldName → Option (List ℕ)
text_of (Bext field) = bext_text field
text_of (Info id) = Some id.0
text_of (Whole id) = Some (whole_text id.0)
text_of (User id) = Some (64 ∷ drop 1 id.0)
text_of (Key name) = Some (codes "key:" ++ name)
text_of (Stream n) = Some (codes "strn:" ++ decimal n)

-- the text of a name that is a field's
abbrev pub name_text : FieldName → Option (List ℕ)
name_text name = if is_field_name name then text_of name else None

-- whether a text is there and is this one
abbrev pub is_text : List ℕ → Option (List ℕ) → Bool
is_text text None = false
is_text text (Some t) = bytes_eq t text

-- a user field is `@` and the three letters or digits behind the byte A9 of its type
abbrev pub user_type : List ℕ → List ℕ
user_type text = 169 ∷ drop 1 text

-- the user field of a text, if it is one
abbrev pub user_name : List ℕ → Option FieldName
user_name text = if bytes_eq (take 1 text) (codes "@") && is_user_type (user_type text) then Some (User (four (user_type text))) else None

-- a key is `key:` and its name
abbrev pub key_name : List ℕ → Option FieldName
key_name text = if bytes_eq (take 4 text) (codes "key:") && is_key_name (drop 4 text) then Some (Key (drop 4 text)) else None

-- a stream is `strn:` and its number, decimal, without leading zeros and below 2^32
abbrev pub stream_name : List ℕ → Option FieldName
stream_name text = if bytes_eq (take 5 text) (codes "strn:") then option_map Stream (number_below (2 ^ 32) (drop 5 text)) else None

-- the first of two names that is there
abbrev pub or_name : Option FieldName → Option FieldName → Option FieldName
or_name None other = other
or_name (Some name) other = Some name

-- the field that a text names: one of those that are few, or a user field, a key or a stream
abbrev pub field_name : List ℕ → Option FieldName
field_name text = or_name (find (λ name. is_text text (name_text name)) field_names) (or_name (user_name text) (or_name (key_name text) (stream_name text)))
