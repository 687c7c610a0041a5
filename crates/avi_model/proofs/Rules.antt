-- An edit that keeps the rules of Base names fields that an AVI file has.
use Rattle.std.proofs.Common.{◌≡◌, ℕ, Bool, true, false, cond, List, [], ◌∷◌, ◌++◌, Option, Some, None, refl, arith}
use Rattle.std.specs.Prelude.{not, nat_lt}
use Rattle.std.proofs.lemmas.Bool.{le-ltb}
use Rattle.std.specs.List.{AllByRecursion, filter_map, cons_option}
use Rattle.part_tree.specs.Names.{info_ids}
use Rattle.part_tree.specs.declared.field.Change.{Change}
use Rattle.part_tree.specs.declared.field.Change.TheVariants.{Set, Remove}
use Rattle.part_tree.specs.declared.field.EditItem.{EditItem}
use Rattle.part_tree.specs.declared.field.FieldName.{FieldName}
use Rattle.part_tree.specs.declared.field.FieldName.TheVariants.{Bext, Info, Whole, User, Key, Stream}
use Rattle.part_tree.specs.declared.field.RuleSet.TheVariants.{Base}
use Rattle.part_tree.specs.declared.names.Kind.TheVariants.{Avi}
use Rattle.field_model.specs.Broken.{broken}
use Rattle.field_model.specs.KindFacts.{has_field}
use Rattle.part_tree.specs.declared.field.Value.{Value}
use Rattle.field_model.specs.Fields.{FieldMap, plain}
use Rattle.field_model.specs.Update.{RawItem, effective, raw_item, raw_items, raw_change}
use Rattle.field_model.proofs.Kept.{Kept, base_kept}
use Rattle.carrier_model.specs.Info.{one_of, SetsInfo}
use Rattle.avi_model.specs.Edited.{info_edit}

-- ---- the items of an edit of an AVI file

-- it names an INFO field, and a value that is set has no language
abbrev pub IsInfoName : FieldName → Type 0
IsInfoName (Info id) = Unit {0}
IsInfoName name = ⊥

abbrev pub HasNoLanguage : Option Value → Type 0
HasNoLanguage None = Unit {0}
HasNoLanguage (Some v) = v ≡ plain v.raw

abbrev pub AreInfo : List RawItem → Type 0
AreInfo rs = AllByRecursion (λ (r : RawItem). IsInfoName r.name × HasNoLanguage r.value) rs

-- what an item gives, before others
abbrev Gives : List RawItem → Type 0
Gives rs = AreInfo rs × SetsInfo (info_edit rs)

one_gives : (name : FieldName) (change : Change) (rs : List RawItem) → not (has_field Avi 0 name) ≡ false → Gives rs → Gives (cons_option (raw_change name change) rs)
one_gives (Bext field) change rs h g = absurd cc
one_gives (Whole id) change rs h g = absurd cc
one_gives (User id) change rs h g = absurd cc
one_gives (Key name) change rs h g = absurd cc
one_gives (Stream n) change rs h g = let no : nat_lt n 0 ≡ false = le-ltb n 0 (omega arith) in absurd cc
one_gives (Info id) change rs h g = set change
  where
    sets : (v : Option (List ℕ)) (t : Bool) → one_of info_ids id.0 ≡ t → SetsInfo (cond t (record { name = id.0; value = v } ∷ []) [] ++ info_edit rs)
    sets v true n = (n, g.1)
    sets v false n = g.1

    set : (change : Change) → Gives (cons_option (raw_change (Info id) change) rs)
    set Remove = (((tt, tt), g.0), sets None (one_of info_ids id.0) refl)
    set (Set text) = (((tt, refl), g.0), sets (Some (text ++ 0 ∷ [])) (one_of info_ids id.0) refl)

all_give : (es : List EditItem) → AllByRecursion (Kept Avi 0) es → Gives (filter_map raw_item es)
all_give [] k = (tt, tt)
all_give (i ∷ es) k = one_gives i.name i.change (filter_map raw_item es) k.0.field (all_give es k.1)

-- the items that have an effect are INFO items
pub items_give : (f : FieldMap) (e : List EditItem) → broken Avi 0 f e Base ≡ None → AreInfo (raw_items f e) × SetsInfo (info_edit (raw_items f e))
items_give f e none = all_give (effective f e) (base_kept Avi 0 f e none)
