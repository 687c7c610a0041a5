-- Which bytes a number is read of, and which forms are texts.
use Rattle.std.specs.Prelude.{◌≡◌, ℕ, List, length}
use Rattle.part_tree.specs.declared.field.FieldName.{FieldName}
use Rattle.part_tree.specs.declared.field.FieldName.TheVariants.{Bext, Info, Whole, User, Key, Stream}
use Rattle.part_tree.specs.declared.field.Form.{Form}
use Rattle.part_tree.specs.declared.field.Form.TheVariants.{Text, Date, Time, Count, Version, Umid, Loudness, Reserved}
use Rattle.field_model.specs.Bext.{form_of}

-- the bytes of a number are as many as its form has
abbrev pub FormHasNumber : Form → List ℕ → Type 0
FormHasNumber Count raw = length raw ≡ 8
FormHasNumber Version raw = length raw ≡ 2
FormHasNumber Loudness raw = length raw ≡ 2
FormHasNumber Text raw = Unit {0}
FormHasNumber Date raw = Unit {0}
FormHasNumber Time raw = Unit {0}
FormHasNumber Umid raw = Unit {0}
FormHasNumber Reserved raw = Unit {0}

abbrev pub HasNumber : FieldName → List ℕ → Type 0
HasNumber (Bext field) raw = FormHasNumber (form_of field) raw
HasNumber (Info id) raw = Unit {0}
HasNumber (Whole id) raw = Unit {0}
HasNumber (User id) raw = Unit {0}
HasNumber (Key name) raw = Unit {0}
HasNumber (Stream n) raw = Unit {0}

-- a form that isn't a text
abbrev pub IsNoText : Form → Type 0
IsNoText Text = ⊥
IsNoText Date = Unit {0}
IsNoText Time = Unit {0}
IsNoText Count = Unit {0}
IsNoText Version = Unit {0}
IsNoText Umid = Unit {0}
IsNoText Loudness = Unit {0}
IsNoText Reserved = Unit {0}
