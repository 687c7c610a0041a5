-- The rules on the items of an edit, and the first that some item breaks.
use Rattle.std.specs.Prelude.{ℕ, suc, List, [], ◌∷◌, Bool, not, ◌||◌, ◌&&◌, ◌==◌, nat_lt, nat_le, if◌then◌else◌, Option, Some, None, option_map}
use Rattle.part_tree.specs.declared.field.Broken.{Broken}
use Rattle.part_tree.specs.declared.field.EditItem.{EditItem}
use Rattle.part_tree.specs.declared.field.FieldName.{FieldName}
use Rattle.part_tree.specs.declared.names.Kind.{Kind}
use Rattle.part_tree.specs.Names.{field_place}
use Rattle.field_model.specs.Broken.{set_fails}
use Rattle.field_model.specs.KindFacts.{has_field}
use Rattle.field_model.specs.Fields.{FieldMap}
use Rattle.field_model.specs.Rules.{TextRule, sets_version, has_nul, has_other_letter, too_wide, no_date, no_time, no_count, no_loudness_text, no_umid, no_checksum, no_utf8, too_long}
use Rattle.field_model.specs.Update.{has_effect}

-- whether a rule fails for an item
abbrev pub ItemTest : Type 0
ItemTest = EditItem → Bool

-- a rule on texts, as a test of the item that sets one
abbrev pub text_test : TextRule → ItemTest
text_test rule item = set_fails rule item.name item.change

-- the rules 1 to 13, in a file of a kind with so many streams
abbrev pub item_tests : Kind → ℕ → List ItemTest
item_tests kind streams =
    (λ item. not (has_field kind streams item.name))
    ∷ (λ item. sets_version item.name [])
    ∷ text_test has_nul
    ∷ text_test has_other_letter
    ∷ text_test too_wide
    ∷ text_test no_date
    ∷ text_test no_time
    ∷ text_test no_count
    ∷ text_test no_loudness_text
    ∷ text_test no_umid
    ∷ text_test no_checksum
    ∷ text_test no_utf8
    ∷ text_test too_long
    ∷ []

-- the first test that fails for an item, numbered from n on
abbrev pub least_from : ℕ → List ItemTest → EditItem → Option ℕ
least_from n [] item = None
least_from n (fails ∷ tests) item = if fails item then Some n else least_from (suc n) tests item

-- the least rule that an item breaks
abbrev pub item_rule : Kind → ℕ → EditItem → Option ℕ
item_rule kind streams item = least_from 1 (item_tests kind streams) item

-- a broken rule, and the field that breaks it
abbrev pub found : ℕ → FieldName → Broken
found n name = record { rule = n; field = name }

-- the least rule that an item breaks, with its field, where the item has an effect
abbrev pub item_broken : Kind → ℕ → FieldMap → EditItem → Option Broken
item_broken kind streams f item =
    if has_effect f item then option_map (λ n. found n item.name) (item_rule kind streams item) else None

-- a lower rule comes first, and of one rule the field that comes first
abbrev pub comes_first : Broken → Broken → Bool
comes_first a b = nat_lt a.rule b.rule || ((a.rule == b.rule) && nat_le (field_place a.field) (field_place b.field))

-- of two that may be broken the one that comes first
abbrev pub first_of_two : Option Broken → Option Broken → Option Broken
first_of_two None b = b
first_of_two (Some a) None = Some a
first_of_two (Some a) (Some b) = if comes_first a b then Some a else Some b

-- the first rule that some item breaks
abbrev pub items_broken : Kind → ℕ → FieldMap → List EditItem → Option Broken
items_broken kind streams f [] = None
items_broken kind streams f (item ∷ e) = first_of_two (item_broken kind streams f item) (items_broken kind streams f e)
