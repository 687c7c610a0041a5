-- The rules 2 to 13: which texts a field can't be set to (this project's own).
use Rattle.std.specs.Prelude.{ℕ, ◌+◌, List, [], ◌∷◌, length, Bool, true, false, not, ◌||◌, ◌&&◌, ◌==◌, nat_lt, nat_le, Option, option_map, is_none, position, codes}
use Rattle.std.specs.List.{list_all, list_any}
use Rattle.std.specs.Str.{bytes_eq, is_utf8}
use Rattle.part_tree.specs.declared.field.FieldName.{FieldName}
use Rattle.part_tree.specs.declared.field.FieldName.TheVariants.{Bext, Info, Whole, User, Key, Stream}
use Rattle.part_tree.specs.declared.field.Form.{Form}
use Rattle.part_tree.specs.declared.field.Form.TheVariants.{Text, Date, Time, Count, Version, Umid, Loudness}
use Rattle.part_tree.specs.Names.{bext_row}
use Rattle.field_model.specs.Bext.{form_of}
use Rattle.field_model.specs.Dates.{is_date, is_time}
use Rattle.field_model.specs.Numbers.{count_of, loudness_of, is_hex}
use Rattle.field_model.specs.Raw.{fits_width}

-- a rule on the texts of fields: whether it fails
abbrev pub TextRule : Type 0
TextRule = FieldName → List ℕ → Bool

-- the forms of bext by number
abbrev pub form_number : Form → ℕ
form_number Text = 0
form_number Date = 1
form_number Time = 2
form_number Count = 3
form_number Version = 4
form_number Umid = 5
form_number Loudness = 6
form_number Form.Reserved = 7

-- a field of bext of this form
abbrev pub is_form : Form → FieldName → Bool
is_form form (Bext field) = form_number (form_of field) == form_number form
is_form form _ = false

-- whether a name is of INFO
abbrev pub is_info : FieldName → Bool
is_info (Info id) = true
is_info _ = false

-- whether a name is of user data, a key or a stream: their texts are short
abbrev pub is_short : FieldName → Bool
is_short (User id) = true
is_short (Key name) = true
is_short (Stream n) = true
is_short _ = false

-- whether a name is of a whole chunk
abbrev pub is_whole : FieldName → Bool
is_whole (Whole id) = true
is_whole _ = false

-- whether a name is of the checksum
abbrev pub is_checksum : FieldName → Bool
is_checksum (Whole id) = bytes_eq id.0 (codes "MD5 ")
is_checksum _ = false

-- whether a name is that of the coding history
abbrev pub is_history_name : FieldName → Bool
is_history_name (Bext field) = bext_row field == 14
is_history_name _ = false

-- 2, BASE-VERSION: the version isn't set by hand
abbrev pub sets_version : TextRule
sets_version name text = is_form Version name

-- 3, BASE-NUL: no byte 0 in a text of bext, INFO, user data, a key or a stream
abbrev pub has_nul : TextRule
has_nul name text = (is_form Text name || is_info name || is_short name) && list_any (λ x. x == 0) text

-- a byte from 20 to 7E
abbrev pub is_printable : ℕ → Bool
is_printable x = nat_le 32 x && nat_le x 126

-- a printable byte, and in the coding history CR and LF too
abbrev pub is_bext_letter : FieldName → ℕ → Bool
is_bext_letter name x = is_printable x || (is_history_name name && ((x == 13) || (x == 10)))

-- 4, BASE-ASCII: a text of bext is printable ASCII
abbrev pub has_other_letter : TextRule
has_other_letter name text = is_form Text name && not (list_all (is_bext_letter name) text)

-- whether a text is longer than its range of `bext`
abbrev pub is_too_wide : FieldName → List ℕ → Bool
is_too_wide (Bext field) text = not (fits_width field text)
is_too_wide _ text = false

-- 5, BASE-WIDTH: a text of bext fits its range
abbrev pub too_wide : TextRule
too_wide name text = is_form Text name && is_too_wide name text

-- 6, BASE-DATE
abbrev pub no_date : TextRule
no_date name text = is_form Date name && not (is_date text)

-- 7, BASE-TIME
abbrev pub no_time : TextRule
no_time name text = is_form Time name && not (is_time text)

-- 8, BASE-TIMEREF: a decimal number below 2^64
abbrev pub no_count : TextRule
no_count name text = is_form Count name && is_none (count_of text)

-- 9, BASE-LOUDNESS: hundredths from -327.68 to 327.66
abbrev pub no_loudness_text : TextRule
no_loudness_text name text = is_form Loudness name && is_none (loudness_of text)

-- 10, BASE-UMID: 128 hexadecimal digits
abbrev pub no_umid : TextRule
no_umid name text = is_form Umid name && not (is_hex 128 text)

-- 11, BASE-MD5: 32 hexadecimal digits
abbrev pub no_checksum : TextRule
no_checksum name text = is_checksum name && not (is_hex 32 text)

-- 12, BASE-UTF8: a text of INFO, user data, a key or a stream is UTF-8
abbrev pub no_utf8 : TextRule
no_utf8 name text = (is_info name || is_short name) && not (is_utf8 text)

-- 13, BASE-LONG: texts of user data, keys and streams to 65,535 bytes, INFO and the coding history to 1 MiB, whole chunks to 16 MiB
abbrev pub too_long : TextRule
too_long name text =
    (is_short name && nat_lt 65535 (length text))
    || ((is_info name || is_history_name name) && nat_lt 1048576 (length text))
    || (is_whole name && not (is_checksum name) && nat_lt 16777216 (length text))

-- the rules 2 to 13, in order
abbrev pub text_rules : List TextRule
text_rules = sets_version ∷ has_nul ∷ has_other_letter ∷ too_wide ∷ no_date ∷ no_time ∷ no_count ∷ no_loudness_text ∷ no_umid ∷ no_checksum ∷ no_utf8 ∷ too_long ∷ []

-- the least of the rules 2 to 13 that a text breaks for a field
abbrev pub text_rule : FieldName → List ℕ → Option ℕ
text_rule name text = option_map (λ k. k + 2) (position (λ rule. rule name text) text_rules)
