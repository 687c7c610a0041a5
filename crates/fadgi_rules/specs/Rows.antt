-- The rules on fields, one by one.
use Rattle.std.specs.Prelude.{ℕ, List, [], ◌∷◌, length, Bool, true, false, not, ◌==◌, nat_lt, IsTrue, Option, Some, None, codes}
use Rattle.std.specs.List.{list_all, list_any}
use Rattle.part_tree.specs.declared.field.BextField.TheVariants.{Description, Originator, OriginatorReference, OriginationDate, OriginationTime, LoudnessRange, CodingHistory}
use Rattle.part_tree.specs.declared.field.Change.{Change}
use Rattle.part_tree.specs.declared.field.Change.TheVariants.{Set, Remove}
use Rattle.part_tree.specs.declared.field.FieldName.{FieldName}
use Rattle.part_tree.specs.declared.field.FieldName.TheVariants as name
use Rattle.part_tree.specs.declared.field.RuleSet.{RuleSet}
use Rattle.part_tree.specs.declared.field.RuleSet.TheVariants as set
use Rattle.part_tree.specs.declared.names.Kind.{Kind}
use Rattle.part_tree.specs.Letters.{four}
use Rattle.part_tree.specs.Names.{same_name}
use Rattle.field_model.specs.Broken.{Rule, on_fields, always, some_text, shows_too_little, ends_with_zero, info_names}
use Rattle.field_model.specs.Dates.{is_date, is_time, is_info_date}
use Rattle.field_model.specs.Fields.{FieldMap}
use Rattle.field_model.specs.History.{is_history}
use Rattle.field_model.specs.KindFacts.{facts}
use Rattle.field_model.specs.Numbers.{is_negative}
use Rattle.field_model.specs.Rules.{is_printable}
use Rattle.fadgi_rules.specs.declared.row.FieldRule.{FieldRule}
use Rattle.fadgi_rules.specs.declared.row.FieldRule.TheVariants as row

-- the number of a rule
abbrev pub number : FieldRule → ℕ
number row.History = 14
number row.Date = 15
number row.Time = 16
number row.Range = 17
number row.Letters = 18
number row.Once = 19
number row.End = 20
number row.Created = 21
number row.HasDescription = 22
number row.HasOriginator = 23
number row.HasDate = 24

-- the set that a rule belongs to
abbrev pub set_of : FieldRule → RuleSet
set_of row.History = set.Ebu
set_of row.Date = set.Ebu
set_of row.Time = set.Ebu
set_of row.Range = set.Ebu
set_of row.Letters = set.Ebu
set_of row.Once = set.Info
set_of row.End = set.Info
set_of row.Created = set.Info
set_of row.HasDescription = set.Fadgi
set_of row.HasOriginator = set.Fadgi
set_of row.HasDate = set.Fadgi

-- the fields that a rule looks at, in field order
abbrev pub fields_of : FieldRule → Kind → List FieldName
fields_of row.History = always (name.Bext CodingHistory ∷ [])
fields_of row.Date = always (name.Bext OriginationDate ∷ [])
fields_of row.Time = always (name.Bext OriginationTime ∷ [])
fields_of row.Range = always (name.Bext LoudnessRange ∷ [])
fields_of row.Letters = always (name.Bext Description ∷ name.Bext Originator ∷ name.Bext OriginatorReference ∷ [])
fields_of row.Once = always info_names
fields_of row.End = always info_names
fields_of row.Created = always (name.Info (four (codes "ICRD")) ∷ [])
fields_of row.HasDescription = λ kind. (facts kind).description
fields_of row.HasOriginator = λ kind. (facts kind).originator
fields_of row.HasDate = λ kind. (facts kind).date

-- whether it fails for one of them
abbrev pub fails : FieldRule → FieldMap → FieldName → Bool
fails row.History = some_text (λ text. not (is_history text))
fails row.Date = some_text (λ text. not (is_date text))
fails row.Time = some_text (λ text. not (is_time text))
fails row.Range = some_text is_negative
fails row.Letters = some_text (λ text. not (list_all is_printable text))
fails row.Once = λ f name. nat_lt 1 (length (f name))
fails row.End = λ f name. list_any (λ v. not (ends_with_zero v.raw)) (f name)
fails row.Created = some_text (λ text. not (is_info_date text))
fails row.HasDescription = shows_too_little
fails row.HasOriginator = shows_too_little
fails row.HasDate = shows_too_little

-- a rule on fields as the model has it
abbrev pub rule_of : FieldRule → Rule
rule_of r = record { set = set_of r; test = on_fields (fields_of r) (fails r) }

-- the first of some names
abbrev pub first_in : List FieldName → Option FieldName
first_in [] = None
first_in (name ∷ names) = Some name

-- ---- a rule on one text, and what an edit does to it

-- whether a rule fails for a text that is shown
abbrev pub text_fails : FieldRule → List ℕ → Bool
text_fails row.History text = not (is_history text)
text_fails row.Date text = not (is_date text)
text_fails row.Time text = not (is_time text)
text_fails row.Range text = is_negative text
text_fails row.Letters text = not (list_all is_printable text)
text_fails row.Once text = false
text_fails row.End text = false
text_fails row.Created text = not (is_info_date text)
text_fails row.HasDescription text = length text == 0
text_fails row.HasOriginator text = length text == 0
text_fails row.HasDate text = length text == 0

-- whether a rule fails where nothing is shown
abbrev pub needs_text : FieldRule → Bool
needs_text row.HasDescription = true
needs_text row.HasOriginator = true
needs_text row.HasDate = true
needs_text _ = false

-- whether a rule fails for a name after the change of its item, if there is one
abbrev pub changed_fails : FieldRule → FieldMap → FieldName → Option Change → Bool
changed_fails r f name None = fails r f name
changed_fails r f name (Some Remove) = needs_text r
changed_fails r f name (Some (Set text)) = text_fails r text

-- a name that a rule looks at in files of some kind
abbrev pub LooksAt : FieldRule → FieldName → Type 0
LooksAt r name = (kind : Kind) × IsTrue (list_any (same_name name) (fields_of r kind))
