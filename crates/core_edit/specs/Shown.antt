-- The text that a value shows, without taking memory.
use Rattle.std.specs.Prelude.{ℕ, List, true, false, Option, Some, None}
use Rattle.part_tree.specs.declared.field.FieldName.{FieldName}
use Rattle.part_tree.specs.declared.field.FieldName.TheVariants.{Bext, Info, Whole, User, Key, Stream}
use Rattle.part_tree.specs.declared.field.Form.{Form}
use Rattle.field_model.specs.Bext.{form_of}
use Rattle.field_model.specs.Numbers.{hex_text}
use Rattle.field_model.specs.Shown.{before_zero, shown_form, shown_key, shown_whole}
use Rattle.core_edit.specs.declared.value_text.ShownText.{ShownText}
use Rattle.core_edit.specs.declared.value_text.ShownText.TheVariants.{Plain, Upper, Lower, Few}

-- the bytes of a shown text
abbrev pub text_of : ShownText → List ℕ
text_of (Plain bytes) = bytes.now
text_of (Upper raw) = hex_text true raw.now
text_of (Lower raw) = hex_text false raw.now
text_of (Few bytes) = bytes

-- what the bytes of a field show, where bext tells a version
abbrev pub shown_at : ℕ → FieldName → List ℕ → Option (List ℕ)
shown_at version (Bext field) raw = shown_form (form_of field) version raw
shown_at version (Info id) raw = Some (before_zero raw)
shown_at version (Whole id) raw = Some (shown_whole id.0 raw)
shown_at version (User id) raw = Some raw
shown_at version (Key name) raw = shown_key raw
shown_at version (Stream n) raw = Some (before_zero raw)

-- what the spelling of a text shows
abbrev pub spelled_at : ℕ → FieldName → Option (List ℕ) → Option (List ℕ)
spelled_at version name None = None
spelled_at version name (Some raw) = shown_at version name raw

-- the same, for a field of bext by its form, and for a whole chunk
abbrev pub spelled_form : Form → ℕ → Option (List ℕ) → Option (List ℕ)
spelled_form form version None = None
spelled_form form version (Some raw) = shown_form form version raw

abbrev pub spelled_whole : List ℕ → Option (List ℕ) → Option (List ℕ)
spelled_whole id None = None
spelled_whole id (Some raw) = Some (shown_whole id raw)
