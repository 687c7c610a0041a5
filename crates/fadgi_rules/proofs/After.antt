-- The values of a name after an edit: those before it, changed by the one item that names it and has an effect.
use Rattle.std.proofs.Common.{◌≡◌, ℕ, List, [], ◌∷◌, Bool, true, false, cond, refl, sym, ap, ◌∙◌, Option, Some, None}
use Rattle.std.specs.Prelude.{◌||◌, ◌&&◌, option_map}
use Rattle.std.specs.List.{filter_map, cons_option}
use Rattle.std.proofs.lemmas.Bool.{cond-true, cond-false}
use Rattle.part_tree.specs.declared.field.Change.{Change}
use Rattle.part_tree.specs.declared.field.Change.TheVariants.{Set, Remove}
use Rattle.part_tree.specs.declared.field.EditItem.{EditItem}
use Rattle.part_tree.specs.declared.field.FieldName.{FieldName}
use Rattle.part_tree.specs.declared.field.FieldName.TheVariants.{Bext, Info, Whole, User, Key, Stream}
use Rattle.part_tree.specs.declared.field.Value.{Value}
use Rattle.part_tree.specs.Names.{same_name}
use Rattle.part_tree.proofs.Places.{same_is_equal}
use Rattle.core_edit.specs.Edits.{AreSound, names_one}
use Rattle.field_model.specs.Fields.{FieldMap}
use Rattle.field_model.specs.Raw.{raw_of}
use Rattle.field_model.specs.Update.{RawItem, has_effect, effective, written, raw_change, raw_item, raw_items, listed, updated_values}
use Rattle.fadgi_rules.specs.Changed.{change_in}

-- the values after a change in raw bytes, if there is one
abbrev pub laid : Option RawItem → List Value → List Value
laid None vs = vs
laid (Some i) vs = listed i.value

abbrev pub after : FieldName → Option Change → List Value → List Value
after name None vs = vs
after name (Some change) vs = laid (raw_change name change) vs

neither : (a b : Bool) → (a || b) ≡ false → (a ≡ false) × (b ≡ false)
neither true b h = absurd cc
neither false b h = (refl, h)

-- raw items keep the name of their item
abbrev Keeps : FieldName → Option RawItem → Type 0
Keeps name None = Unit {0}
Keeps name (Some i) = i.name ≡ name

keeps : (name : FieldName) (change : Change) → Keeps name (raw_change name change)
keeps name (Set text) = go (raw_of name text)
  where
    go : (o : Option (List ℕ)) → Keeps name (option_map (written name) o)
    go None = tt
    go (Some raw) = refl
keeps (Bext field) Remove = refl
keeps (Info id) Remove = refl
keeps (Whole id) Remove = refl
keeps (User id) Remove = refl
keeps (Key k) Remove = refl
keeps (Stream n) Remove = refl

-- a name that no item names keeps its values
unnamed : (f : FieldMap) (e : List EditItem) (name : FieldName) (vs : List Value) → names_one name e ≡ false → updated_values (raw_items f e) name vs ≡ vs
unnamed f [] name vs h = refl
unnamed f (item ∷ e) name vs h =
    let parts = neither (same_name item.name name) (names_one name e) h in
    go (has_effect f item) (raw_item item) (keeps item.name item.change) parts.0 (unnamed f e name vs parts.1)
  where
    front : (o : Option RawItem) → Keeps item.name o → same_name item.name name ≡ false → updated_values (raw_items f e) name vs ≡ vs
        → updated_values (cons_option o (raw_items f e)) name vs ≡ vs
    front None keep miss rest = rest
    front (Some i) keep miss rest =
        ap (updated_values (raw_items f e) name) (cond-false (same_name i.name name) (listed i.value) vs (ap (λ (n : FieldName). same_name n name) keep ∙ miss)) ∙ rest

    go : (b : Bool) (o : Option RawItem) → Keeps item.name o → same_name item.name name ≡ false → updated_values (raw_items f e) name vs ≡ vs
        → updated_values (filter_map raw_item (cond b (item ∷ effective f e) (effective f e))) name vs ≡ vs
    go true o keep miss rest = front (raw_item item) (keeps item.name item.change) miss rest
    go false o keep miss rest = rest

-- the values of a name after the items
pub values_after : (f : FieldMap) (e : List EditItem) (name : FieldName) (vs : List Value) → AreSound e → updated_values (raw_items f e) name vs ≡ after name (change_in f e name) vs
values_after f [] name vs sound = refl
values_after f (item ∷ e) name vs sound = go (same_name item.name name) (has_effect f item) refl refl (values_after f e name vs sound.3)
  where
    hit : (o : Option RawItem) → Keeps item.name o → same_name item.name name ≡ true → names_one name e ≡ false
        → updated_values (cons_option o (raw_items f e)) name vs ≡ laid o vs
    hit None keep same none = unnamed f e name vs none
    hit (Some i) keep same none =
        ap (updated_values (raw_items f e) name) (cond-true (same_name i.name name) (listed i.value) vs (ap (λ (n : FieldName). same_name n name) keep ∙ same)) ∙ unnamed f e name (listed i.value) none

    miss : (o : Option RawItem) → Keeps item.name o → same_name item.name name ≡ false
        → updated_values (cons_option o (raw_items f e)) name vs ≡ updated_values (raw_items f e) name vs
    miss None keep other = refl
    miss (Some i) keep other = ap (updated_values (raw_items f e) name) (cond-false (same_name i.name name) (listed i.value) vs (ap (λ (n : FieldName). same_name n name) keep ∙ other))

    go : (s b : Bool) → same_name item.name name ≡ s → has_effect f item ≡ b → updated_values (raw_items f e) name vs ≡ after name (change_in f e name) vs
        → updated_values (filter_map raw_item (cond b (item ∷ effective f e) (effective f e))) name vs ≡ after name (cond (s && b) (Some item.change) (change_in f e name)) vs
    go true true same acts rest =
        let is : item.name ≡ name = same_is_equal item.name name same in
        hit (raw_item item) (keeps item.name item.change) same (ap (λ (n : FieldName). names_one n e) (sym is) ∙ sound.2) ∙ ap (λ (n : FieldName). laid (raw_change n item.change) vs) is
    go false true other acts rest = miss (raw_item item) (keeps item.name item.change) other ∙ rest
    go true false same acts rest = rest
    go false false other acts rest = rest
