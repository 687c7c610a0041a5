-- The 24 rules, and the first that an edit breaks (this project's own).
use Rattle.std.specs.Prelude.{ℕ, suc, List, [], ◌∷◌, ◌++◌, length, map, filter, Bool, true, false, not, ◌||◌, ◌==◌, nat_lt, nat_le, if◌then◌else◌, Option, Some, None, codes}
use Rattle.std.specs.List.{list_all, list_any}
use Rattle.part_tree.specs.declared.field.BextField.TheVariants.{Description, Originator, OriginatorReference, OriginationDate, OriginationTime, LoudnessRange, CodingHistory}
use Rattle.part_tree.specs.declared.field.Broken.{Broken}
use Rattle.part_tree.specs.declared.field.Change.{Change}
use Rattle.part_tree.specs.declared.field.Change.TheVariants.{Set, Remove}
use Rattle.part_tree.specs.declared.field.EditItem.{EditItem}
use Rattle.part_tree.specs.declared.field.FieldName.{FieldName}
use Rattle.part_tree.specs.declared.field.FieldName.TheVariants as name
use Rattle.part_tree.specs.declared.field.RuleSet.{RuleSet}
use Rattle.part_tree.specs.declared.field.RuleSet.TheVariants.{Base, Ebu, Fadgi}
use Rattle.part_tree.specs.declared.field.RuleSet.TheVariants as set
use Rattle.part_tree.specs.declared.names.Kind.{Kind}
use Rattle.part_tree.specs.Letters.{four}
use Rattle.part_tree.specs.Names.{field_place, info_ids}
use Rattle.field_model.specs.Dates.{is_date, is_time, is_info_date}
use Rattle.field_model.specs.Fields.{FieldMap}
use Rattle.field_model.specs.History.{is_history}
use Rattle.field_model.specs.KindFacts.{facts, has_field}
use Rattle.field_model.specs.Numbers.{is_negative}
use Rattle.field_model.specs.Rules.{TextRule, is_printable, sets_version, has_nul, has_other_letter, too_wide, no_date, no_time, no_count, no_loudness_text, no_umid, no_checksum, no_utf8, too_long}
use Rattle.field_model.specs.Shown.{shown_texts}
use Rattle.field_model.specs.Update.{effective, update}

-- A rule looks at the items that have an effect, in a file of a kind with so many streams, or at some fields after the edit.
pub data Test : Type 0 where
  on_item : (Kind → ℕ → EditItem → Bool) → Test
  on_fields : (Kind → List FieldName) → (FieldMap → FieldName → Bool) → Test

-- a rule: the set that it belongs to, and its test
pub record Rule : Type 0 where
  pub set : RuleSet
  pub test : Test

-- ---- rules on items

-- a rule on texts, of the item that sets one
abbrev pub set_fails : TextRule → FieldName → Change → Bool
set_fails rule name (Set text) = rule name text
set_fails rule name Remove = false

-- a rule that looks at each text that is set
abbrev pub on_text : TextRule → Test
on_text rule = on_item (λ kind streams item. set_fails rule item.name item.change)

-- ---- rules on fields

-- some text that is shown fails
abbrev pub some_text : (List ℕ → Bool) → FieldMap → FieldName → Bool
some_text fails f name = list_any fails (shown_texts f name)

-- no text is shown, or an empty one
abbrev pub shows_too_little : FieldMap → FieldName → Bool
shows_too_little f name = (length (shown_texts f name) == 0) || some_text (λ text. length text == 0) f name

-- whether the last byte is 0
abbrev pub ends_with_zero : List ℕ → Bool
ends_with_zero [] = false
ends_with_zero (x ∷ []) = x == 0
ends_with_zero (x ∷ y ∷ xs) = ends_with_zero (y ∷ xs)

-- the same fields in files of each kind
abbrev pub always : List FieldName → Kind → List FieldName
always names kind = names

-- a rule on the texts that fields of `bext` show
abbrev pub on_bext : List FieldName → (List ℕ → Bool) → Test
on_bext names fails = on_fields (always names) (some_text fails)

-- all INFO fields, in field order
abbrev pub info_names : List FieldName
info_names = map (λ id. name.Info (four id)) info_ids

-- ---- the table

-- a rule of the set Base
abbrev pub base : Test → Rule
base test = record { set = Base; test = test }

-- a rule of the set Ebu
abbrev pub ebu : Test → Rule
ebu test = record { set = Ebu; test = test }

-- a rule of the set Info
abbrev pub info : Test → Rule
info test = record { set = set.Info; test = test }

-- a rule of the set Fadgi
abbrev pub fadgi : Test → Rule
fadgi test = record { set = Fadgi; test = test }

-- the 24 rules, in order
abbrev pub rules : List Rule
rules =
    base (on_item (λ kind streams item. not (has_field kind streams item.name)))
    ∷ base (on_item (λ kind streams item. sets_version item.name []))
    ∷ base (on_text has_nul)
    ∷ base (on_text has_other_letter)
    ∷ base (on_text too_wide)
    ∷ base (on_text no_date)
    ∷ base (on_text no_time)
    ∷ base (on_text no_count)
    ∷ base (on_text no_loudness_text)
    ∷ base (on_text no_umid)
    ∷ base (on_text no_checksum)
    ∷ base (on_text no_utf8)
    ∷ base (on_text too_long)
    ∷ ebu (on_bext (name.Bext CodingHistory ∷ []) (λ text. not (is_history text)))
    ∷ ebu (on_bext (name.Bext OriginationDate ∷ []) (λ text. not (is_date text)))
    ∷ ebu (on_bext (name.Bext OriginationTime ∷ []) (λ text. not (is_time text)))
    ∷ ebu (on_bext (name.Bext LoudnessRange ∷ []) is_negative)
    ∷ ebu (on_bext (name.Bext Description ∷ name.Bext Originator ∷ name.Bext OriginatorReference ∷ []) (λ text. not (list_all is_printable text)))
    ∷ info (on_fields (always info_names) (λ f name. nat_lt 1 (length (f name))))
    ∷ info (on_fields (always info_names) (λ f name. list_any (λ v. not (ends_with_zero v.raw)) (f name)))
    ∷ info (on_fields (always (name.Info (four (codes "ICRD")) ∷ [])) (some_text (λ text. not (is_info_date text))))
    ∷ fadgi (on_fields (λ kind. (facts kind).description) shows_too_little)
    ∷ fadgi (on_fields (λ kind. (facts kind).originator) shows_too_little)
    ∷ fadgi (on_fields (λ kind. (facts kind).date) shows_too_little)
    ∷ []

-- ---- which rules are broken

-- each set has the rules of Base, and Fadgi all
abbrev pub chooses : RuleSet → RuleSet → Bool
chooses Fadgi set = true
chooses chosen Base = true
chooses Ebu Ebu = true
chooses set.Info set.Info = true
chooses _ _ = false

-- the first of some names in field order
abbrev pub first_of : FieldName → List FieldName → List FieldName
first_of name [] = name ∷ []
first_of name (m ∷ names) = if nat_le (field_place name) (field_place m) then name ∷ [] else m ∷ []

-- the first of some names in field order, if there is one
abbrev pub first_name : List FieldName → List FieldName
first_name [] = []
first_name (name ∷ names) = first_of name (first_name names)

-- the fields that break a rule, in field order; of the items' rules the first
abbrev pub failing : Test → Kind → ℕ → FieldMap → List EditItem → List FieldName
failing (on_item fails) kind streams f e = first_name (map (λ item. item.name) (filter (fails kind streams) (effective f e)))
failing (on_fields names fails) kind streams f e = filter (fails (update f e)) (names kind)

-- each chosen rule that is broken, by its number from n on, and each field that breaks it
abbrev pub findings_from : ℕ → List Rule → Kind → ℕ → FieldMap → List EditItem → RuleSet → List Broken
findings_from n [] kind streams f e sets = []
findings_from n (r ∷ rs) kind streams f e sets =
    (if chooses sets r.set then map (λ name. record { rule = n; field = name }) (failing r.test kind streams f e) else []) ++ findings_from (suc n) rs kind streams f e sets

-- each chosen rule that is broken, and each field that breaks it, in a file of a kind with so many streams
abbrev pub findings : Kind → ℕ → FieldMap → List EditItem → RuleSet → List Broken
findings kind streams f e sets = findings_from 1 rules kind streams f e sets

-- the first finding, if there is one
abbrev pub first_found : List Broken → Option Broken
first_found [] = None
first_found (b ∷ bs) = Some b

-- the first rule that is broken, with the first field in field order that breaks it
abbrev pub broken : Kind → ℕ → FieldMap → List EditItem → RuleSet → Option Broken
broken kind streams f e sets = first_found (findings kind streams f e sets)
