-- The texts that fields show as they stand.
use Rattle.std.specs.Prelude.{◌≡◌, ℕ, List, [], length, Bool, false, ◌&&◌, nat_le, Option, Some, None, is_some, ◌⊎◌}
use Rattle.me_bytes.specs.Bytes.{le}
use Rattle.part_tree.specs.declared.field.BextField.{BextField}
use Rattle.part_tree.specs.declared.field.BextField.TheVariants.{LoudnessRange, Version}
use Rattle.part_tree.specs.declared.field.FieldName.{FieldName}
use Rattle.part_tree.specs.declared.field.FieldName.TheVariants.{Bext, Info, Whole, User, Key, Stream}
use Rattle.part_tree.specs.declared.field.Value.{Value}
use Rattle.field_model.specs.Fields.{FieldMap, first_raw}
use Rattle.field_model.specs.Shown.{before_zero, shown_key, unless_empty}
use Rattle.fadgi_rules.specs.declared.row.FieldRule.{FieldRule}
use Rattle.fadgi_rules.specs.Rows.{text_fails}

-- what the bytes of a field show that is kept as a text
abbrev pub plain_text : FieldName → List ℕ → Option (List ℕ)
plain_text (Bext field) raw = unless_empty (before_zero raw)
plain_text (Info id) raw = Some (before_zero raw)
plain_text (Whole id) raw = Some raw
plain_text (User id) raw = Some raw
plain_text (Key name) raw = shown_key raw
plain_text (Stream n) raw = Some (before_zero raw)

-- whether there is a text for which a rule fails
abbrev pub option_fails : FieldRule → Option (List ℕ) → Bool
option_fails rule None = false
option_fails rule (Some text) = text_fails rule text

-- whether a value shows a text for which a rule fails
abbrev pub value_fails : FieldRule → FieldName → Value → Bool
value_fails rule name value = option_fails rule (plain_text name value.raw)

-- whether a value shows a text
abbrev pub shows_text : FieldName → Value → Bool
shows_text name value = is_some (plain_text name value.raw)

-- the first value of a field of bext as a number
abbrev pub number : FieldMap → BextField → ℕ
number f field = le (first_raw (f (Bext field)))

-- a field of bext is not there, or its first value has two bytes
abbrev pub HasTwoBytes : FieldMap → BextField → Type 0
HasTwoBytes f field = (f (Bext field) ≡ []) ⊎ (length (first_raw (f (Bext field))) ≡ 2)

-- whether a loudness range is shown that is negative
abbrev pub shows_negative : FieldMap → Bool
shows_negative f = nat_le 2 (number f Version) && nat_le 32768 (number f LoudnessRange)
