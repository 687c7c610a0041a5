-- Items put one after the other, and what the raw items of an edit are of.
use Rattle.std.proofs.Common.{◌≡◌, ℕ, ◌+◌, ◌<◌, ◌≤◌, List, [], ◌∷◌, ◌++◌, length, get_or, drop, Bool, true, false, refl, sym, ap, ◌∙◌, subst, Option, Some, None, append_assoc, if◌then◌else◌, arith, length-append}
use Rattle.std.specs.Prelude.{option_map, is_some, unwrap_or}
use Rattle.std.specs.List.{AllByRecursion, cons_option, filter_map}
use Rattle.std.proofs.lemmas.List.{at_drop_more, at_drop_all, append-nil}
use Rattle.part_tree.specs.declared.field.Change.{Change}
use Rattle.part_tree.specs.declared.field.Change.TheVariants.{Set, Remove}
use Rattle.part_tree.specs.declared.field.EditItem.{EditItem}
use Rattle.part_tree.specs.declared.field.FieldName.{FieldName}
use Rattle.part_tree.specs.declared.field.FieldName.TheVariants.{Bext, Info, Whole, User, Key, Stream}
use Rattle.part_tree.specs.Names.{IsFieldName, is_field_name}
use Rattle.field_model.specs.Body.{FitBext, FitsBext}
use Rattle.field_model.specs.Lawful.{FitKeys, FitsKey}
use Rattle.field_model.specs.Raw.{key_head, raw_of}
use Rattle.field_model.specs.Texts.{text_of}
use Rattle.field_model.specs.Update.{RawItem, raw_change, raw_item, written}
use Rattle.field_model.proofs.Fits.{blank_fills, raw_fills}
use Rattle.core_edit.specs.Edits.{AreOfFields, AreSound, IsNamed}

-- ---- a list made item by item

pub next_put : {X Y : Type 0} (F : List X → List Y) → ((xs ys : List X) → F (xs ++ ys) ≡ F xs ++ F ys) → (items : List X) (k : ℕ) (i : X) (done new whole : List Y)
    → k < length items → i ≡ get_or items k i → new ≡ done ++ F (i ∷ []) → done ++ F (drop k items) ≡ whole → new ++ F (drop (k + 1) items) ≡ whole
next_put {Y} F joins items k i done new whole inside is put so_far =
    let rest = drop (k + 1) items in
    let split : F (drop k items) ≡ F (i ∷ []) ++ F rest = at_drop_more F items k i inside ∙ ap (λ j. F (j ∷ rest)) (sym is) ∙ joins (i ∷ []) rest in
    ap (λ (ys : List Y). ys ++ F rest) put ∙ append_assoc done (F (i ∷ [])) (F rest) ∙ ap (λ (ys : List Y). done ++ ys) (sym split) ∙ so_far

pub all_put : {X Y : Type 0} (F : List X → List Y) → F [] ≡ [] → (items : List X) (k : ℕ) (done whole : List Y) → length items ≤ k → done ++ F (drop k items) ≡ whole → done ≡ whole
all_put {Y} F none items k done whole past so_far =
    sym (append-nil done) ∙ ap (λ (ys : List Y). done ++ ys) (sym (at_drop_all F items k past ∙ none)) ∙ so_far

-- ---- what raw items are of

named_field : (name : FieldName) → IsNamed name → IsFieldName name
named_field name h = go (is_field_name name) h
  where
    go : (t : Bool) → is_some (if t then text_of name else None) ≡ true → t ≡ true
    go true e = refl
    go false e = absurd cc

-- a raw item is of a field, one of bext fills the field's range, and one of a key has a type and a locale
abbrev Sits : RawItem → Type 0
Sits i = IsFieldName i.name × FitsBext i.name i.value × FitsKey i.name i.value

abbrev MaySit : Option RawItem → Type 0
MaySit None = Unit {0}
MaySit (Some i) = Sits i

some_same : (x y : List ℕ) → Some x ≡ Some y → x ≡ y
some_same x y h = ap (λ (o : Option (List ℕ)). unwrap_or o x) h

written_sits : (name : FieldName) (text raw : List ℕ) → IsFieldName name → raw_of name text ≡ Some raw → Sits (written name raw)
written_sits (Bext field) text raw of_field h = (of_field, (refl, raw_fills field text raw h), tt)
written_sits (Info id) text raw of_field h = (of_field, tt, tt)
written_sits (Whole id) text raw of_field h = (of_field, tt, tt)
written_sits (User id) text raw of_field h = (of_field, tt, tt)
written_sits (Key name) text raw of_field h = (of_field, tt, omega (arith, ap length (some_same (key_head ++ text) raw h), length-append key_head text))
written_sits (Stream n) text raw of_field h = (of_field, tt, tt)

set_sits : (name : FieldName) (text : List ℕ) → IsFieldName name → (o : Option (List ℕ)) → raw_of name text ≡ o → MaySit (option_map (written name) o)
set_sits name text of_field None h = tt
set_sits name text of_field (Some raw) h = written_sits name text raw of_field h

change_sits : (name : FieldName) (change : Change) → IsFieldName name → MaySit (raw_change name change)
change_sits name (Set text) of_field = set_sits name text of_field (raw_of name text) refl
change_sits (Bext field) Remove of_field = (of_field, (refl, blank_fills field), tt)
change_sits (Info id) Remove of_field = (of_field, tt, tt)
change_sits (Whole id) Remove of_field = (of_field, tt, tt)
change_sits (User id) Remove of_field = (of_field, tt, tt)
change_sits (Key name) Remove of_field = (of_field, tt, tt)
change_sits (Stream n) Remove of_field = (of_field, tt, tt)

joined : (o : Option RawItem) (e : List RawItem) → MaySit o → AllByRecursion Sits e → AllByRecursion Sits (cons_option o e)
joined None e h all = all
joined (Some i) e h all = (h, all)

all_sit : (items : List EditItem) → AreSound items → AllByRecursion Sits (filter_map raw_item items)
all_sit [] h = tt
all_sit (i ∷ items) h = joined (raw_item i) (filter_map raw_item items) (change_sits i.name i.change (named_field i.name h.0)) (all_sit items h.3)

names_of : (e : List RawItem) → AllByRecursion Sits e → AreOfFields e
names_of [] h = tt
names_of (i ∷ e) h = (h.0.0, names_of e h.1)

fits_of : (e : List RawItem) → AllByRecursion Sits e → FitBext e
fits_of [] h = tt
fits_of (i ∷ e) h = (h.0.1, fits_of e h.1)

keys_of : (e : List RawItem) → AllByRecursion Sits e → FitKeys e
keys_of [] h = tt
keys_of (i ∷ e) h = (h.0.2, keys_of e h.1)

pub are_of_fields : (e : List RawItem) (items : List EditItem) → AreSound items → e ≡ filter_map raw_item items → AreOfFields e
are_of_fields e items sound is = subst AreOfFields (sym is) (names_of (filter_map raw_item items) (all_sit items sound))

pub fit_bext : (e : List RawItem) (items : List EditItem) → AreSound items → e ≡ filter_map raw_item items → FitBext e
fit_bext e items sound is = subst FitBext (sym is) (fits_of (filter_map raw_item items) (all_sit items sound))

pub fit_keys : (e : List RawItem) (items : List EditItem) → AreSound items → e ≡ filter_map raw_item items → FitKeys e
fit_keys e items sound is = subst FitKeys (sym is) (keys_of (filter_map raw_item items) (all_sit items sound))
