-- An edit that keeps the rules of Base sets texts that fit, of fields that a movie has.
use Rattle.std.proofs.Common.{Some, ◌≡◌, ℕ, ◌<◌, ◌^◌, Bool, true, false, cond, ltb, List, Option, [], ◌∷◌, ◌++◌, length, None, refl, arith, length-append}
use Rattle.std.specs.Prelude.{◌||◌, not}
use Rattle.std.specs.List.{AllByRecursion, filter_map, cons_option}
use Rattle.std.proofs.lemmas.Bool.{ltb-false}
use Rattle.part_tree.specs.Keys.{is_key_name}
use Rattle.part_tree.specs.Names.{is_user_type}
use Rattle.part_tree.specs.declared.field.Change.{Change}
use Rattle.part_tree.specs.declared.field.Change.TheVariants.{Set, Remove}
use Rattle.part_tree.specs.declared.field.EditItem.{EditItem}
use Rattle.part_tree.specs.declared.field.FieldName.{FieldName}
use Rattle.part_tree.specs.declared.field.FieldName.TheVariants.{Bext, Info, Whole, User, Key, Stream}
use Rattle.part_tree.specs.declared.field.RuleSet.TheVariants.{Base}
use Rattle.part_tree.specs.declared.field.Value.{Value}
use Rattle.part_tree.specs.declared.names.Kind.TheVariants.{Mov}
use Rattle.field_model.specs.Broken.{broken, set_fails}
use Rattle.field_model.specs.KindFacts.{has_field}
use Rattle.field_model.specs.Fields.{FieldMap, plain}
use Rattle.field_model.specs.Raw.{key_head}
use Rattle.field_model.specs.Rules.{too_long}
use Rattle.field_model.specs.Update.{RawItem, effective, raw_item, raw_items, raw_change}
use Rattle.field_model.proofs.Kept.{Kept, base_kept}
use Rattle.mov_model.specs.Edited.{changed_by}
use Rattle.mov_model.proofs.Fits.{CanSet, KeyItems, UserItems}

-- ---- the items of an edit of a movie

-- a value without a language
abbrev pub IsPlain : Option Value → Type 0
IsPlain None = Unit {0}
IsPlain (Some v) = v ≡ plain v.raw

-- it names a type of user items, or a key, whose value has no language
abbrev pub IsMovItem : FieldName → Option Value → Type 0
IsMovItem (User id) value = Unit {0}
IsMovItem (Key name) value = IsPlain value
IsMovItem name value = ⊥

abbrev pub AreMov : List RawItem → Type 0
AreMov rs = AllByRecursion (λ (r : RawItem). IsMovItem r.name r.value) rs

-- what an item gives, before others
abbrev Gives : List RawItem → Type 0
Gives rs = AreMov rs × UserItems (changed_by rs).users × KeyItems (changed_by rs).keys

short_text : (text : List ℕ) (a b : Bool) → ((ltb 65535 (length text) || a) || b) ≡ false → length text < 2 ^ 16
short_text text a b h = go (ltb 65535 (length text)) refl h
  where
    go : (t : Bool) → ltb 65535 (length text) ≡ t → ((t || a) || b) ≡ false → length text < 2 ^ 16
    go true e h = absurd cc
    go false e h = omega (arith, ltb-false _ _ e)

one_gives : (name : FieldName) (change : Change) (rs : List RawItem) → not (has_field Mov 0 name) ≡ false → set_fails too_long name change ≡ false → Gives rs → Gives (cons_option (raw_change name change) rs)
one_gives (Bext field) change rs h s g = absurd cc
one_gives (Info id) change rs h s g = absurd cc
one_gives (Whole id) change rs h s g = absurd cc
one_gives (Stream n) change rs h s g = absurd cc
one_gives (Key name) Remove rs h s g = ((tt, g.0), g.1, go (is_key_name name))
  where
    go : (t : Bool) → KeyItems (cond t (record { name = name; value = None } ∷ []) [] ++ (changed_by rs).keys)
    go true = (tt, g.2)
    go false = g.2
one_gives (Key name) (Set text) rs h s g = ((refl, g.0), g.1, go (is_key_name name))
  where
    go : (t : Bool) → KeyItems (cond t (record { name = name; value = Some (key_head ++ text) } ∷ []) [] ++ (changed_by rs).keys)
    go true = (omega (arith, length-append key_head text), g.2)
    go false = g.2
one_gives (User id) Remove rs h s g = ((tt, g.0), go (is_user_type id.0), g.2)
  where
    go : (t : Bool) → UserItems (cond t (record { name = id.0; value = None } ∷ []) [] ++ (changed_by rs).users)
    go true = (tt, g.1)
    go false = g.1
one_gives (User id) (Set text) rs h s g = ((tt, g.0), go (is_user_type id.0) refl, g.2)
  where
    go : (t : Bool) → is_user_type id.0 ≡ t → UserItems (cond t (record { name = id.0; value = Some (record { lang = 5575; raw = text }) } ∷ []) [] ++ (changed_by rs).users)
    go true n = ((n, omega arith, short_text text _ _ s), g.1)
    go false n = g.1

all_give : (es : List EditItem) → AllByRecursion (Kept Mov 0) es → Gives (filter_map raw_item es)
all_give [] k = (tt, tt, tt)
all_give (i ∷ es) k = one_gives i.name i.change (filter_map raw_item es) k.0.field k.0.short (all_give es k.1)

-- the items that have an effect are user items and keys, with values that can be set
pub items_give : (f : FieldMap) (e : List EditItem) → broken Mov 0 f e Base ≡ None → AreMov (raw_items f e) × CanSet (changed_by (raw_items f e))
items_give f e none = let g = all_give (effective f e) (base_kept Mov 0 f e none) in (g.0, record { users = g.1; keys = g.2 })
